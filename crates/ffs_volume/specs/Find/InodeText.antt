-- What `inode` prints: where the 128 bytes of an inode begin in the image, and what they say.
use Rattle.std.specs.Prelude.{ℕ, ◌*◌, ◌==◌, List, [], ◌∷◌, ◌++◌, codes, decimal, map, slice_index, if◌then◌else◌, nat_lt}
use Rattle.std.specs.{List.{concat, flat_map, range_with_len}, Fmt.signed_decimal}
use Rattle.ffs_volume.specs.declared.{constants.TheConstants.DINODE_SIZE, Layout.Layout, Inode.Inode, Class.Class}
use Rattle.ffs_volume.specs.declared.Class.TheVariants.{Free, Partial, Unknown, File, Dir}
use Rattle.ffs_volume.specs.{Disk.{Areas.inode_place, Numbers.piece}, Messages.Shown.{octal, shown}}
use Rattle.ffs_volume.specs.Blocks.Inodes.{inode_from_bytes, class_of, type_of, is_device, is_short_symlink}

-- the word of a class
abbrev pub class_word : Class → List ℕ
class_word Free = codes "free"
class_word Partial = codes "partial"
class_word Unknown = codes "unknown"
class_word File = codes "file"
class_word Dir = codes "directory"

-- the lines before the mode's digits: where the inode begins, in bytes, and its class
unfoldable pub place_text : (place : ℕ) (class : Class) → List ℕ
place_text place class = concat (
    codes "byte " ∷ (decimal place ++ codes "\nclass ") ∷ class_word class ∷ codes "\nmode " ∷ [])

-- what follows these digits: the other numbers of the inode
unfoldable pub numbers_text : Inode → List ℕ
numbers_text i = concat (
    codes "\nlinks " ∷ (signed_decimal i.nlink ++ codes "\nsize ") ∷ (decimal i.size ++ codes "\nblocks ")
    ∷ (decimal i.blocks ++ codes "\nuid ") ∷ (decimal i.uid ++ codes "\nmtime ")
    ∷ (signed_decimal i.mtime ++ codes "\n") ∷ [])

-- the line of the address at an index, unless it is 0: the index, the fragment, and the byte at which
-- that begins in the image
abbrev pub address_text : (v : Layout) (addresses : List ℕ) (j : ℕ) → List ℕ
address_text v addresses j =
    if slice_index addresses j == 0 then []
    else concat (codes "address " ∷ (decimal j ++ codes " ") ∷ (decimal (slice_index addresses j) ++ codes " byte ")
    ∷ (decimal (slice_index addresses j * v.fsize) ++ codes "\n") ∷ [])

-- the lines of all fifteen addresses that aren't 0
unfoldable pub fifteen_text : (v : Layout) (addresses : List ℕ) → List ℕ
fifteen_text v addresses = flat_map (address_text v addresses) (range_with_len 0 15)

-- the text of a short symlink, of `size` bytes; it is in the place of the addresses, from byte 40 on
abbrev pub link_text : (bytes : List ℕ) (size : ℕ) → List ℕ
link_text bytes size = concat (codes "text " ∷ map shown (piece 40 size bytes) ∷ codes "\n" ∷ [])

-- what is in the place of the addresses: the text of a short symlink, the number of a device, or
-- addresses
unfoldable pub addresses_text : (v : Layout) (bytes : List ℕ) (i : Inode) → List ℕ
addresses_text v bytes i =
    if is_short_symlink v i then link_text bytes i.size
    else (if is_device (type_of i.mode)
    then concat (codes "device " ∷ (decimal (slice_index i.addresses 0) ++ codes "\n") ∷ [])
    else fifteen_text v i.addresses)

-- what the 128 bytes of inode x say, which begin at a place in the image
abbrev pub bytes_text : (v : Layout) (place : ℕ) (bytes : List ℕ) (i : Inode) → List ℕ
bytes_text v place bytes i =
    place_text place (class_of v i) ++ (octal i.mode ++ (numbers_text i ++ addresses_text v bytes i))

-- the text of inode x of an image; none where the volume has no such inode
unfoldable pub inode_listing : (v : Layout) (image : List ℕ) (x : ℕ) → List (List ℕ)
inode_listing v image x =
    if nat_lt x (v.ncg * v.ipg)
    then bytes_text v (inode_place v x) (piece (inode_place v x) DINODE_SIZE image)
    (inode_from_bytes v.order (piece (inode_place v x) DINODE_SIZE image)) ∷ []
    else []
