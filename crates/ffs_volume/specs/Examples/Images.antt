-- The images of the worked examples, in both orders of bytes.
use Rattle.std.specs.Prelude.{ℕ, ◌+◌, List, [], ◌∷◌, ◌++◌, pos, Option, None, take, drop, replicate}
use Rattle.std.specs.Result.{result_err}
use Rattle.byteorder.specs.Endian.{little_bytes, big_bytes}
use Rattle.ffs_volume.specs.declared.{Order.{Order, TheVariants.{Little, Big}}, Layout.Layout, SuperFault.SuperFault}
use Rattle.ffs_volume.specs.Disk.{Superblock.Superblock, Outcome.outcome}

-- a number in n bytes, a number in four bytes, and n bytes of zero
unfoldable pub bytes_in : Order → (n number : ℕ) → List ℕ
bytes_in Little n number = little_bytes n number
bytes_in Big n number = big_bytes n number

unfoldable pub word : Order → ℕ → List ℕ
word order number = bytes_in order 4 number

unfoldable pub zero_bytes : ℕ → List ℕ
zero_bytes n = replicate n 0

-- the bytes of `/mnt`
abbrev pub mount_bytes : List ℕ
mount_bytes = 47 ∷ 109 ∷ 110 ∷ 116 ∷ []

-- a volume of one group of 128 fragments of 1,024 bytes, 4 to a block, with 32 inodes
unfoldable pub base_layout : Order → Layout
base_layout order = record {
  order = order;
  sblkno = 16;
  cblkno = 24;
  iblkno = 28;
  dblkno = 32;
  cgoffset = pos 0;
  cgmask = 4294967295;
  size = 128;
  dsize = 95;
  ncg = 1;
  bsize = 4096;
  fsize = 1024;
  frag = 4;
  sbsize = 2048;
  nindir = 1024;
  inopb = 32;
  csaddr = 32;
  cssize = 1024;
  cgsize = 1024;
  ncyl = 1;
  cpg = 1;
  ipg = 32;
  fpg = 128;
  maxsymlinklen = 60;
  inodefmt = 2;
  postblformat = 1;
}

-- its superblock, and the 1,376 bytes of it
unfoldable pub base_superblock : Order → Superblock
base_superblock order = record {
  layout = base_layout order;
  optim = pos 0;
  minfree = pos 10;
  cstotal = pos 1 ∷ pos 22 ∷ pos 29 ∷ pos 6 ∷ [];
  mount = mount_bytes ++ zero_bytes 508;
}

unfoldable pub base_super : Order → List ℕ
base_super o =
    zero_bytes 8 ++ (word o 16 ++ (word o 24 ++ (word o 28 ++ (word o 32
    ++ (word o 0 ++ (word o 4294967295 ++ (zero_bytes 4 ++ (word o 128 ++ (word o 95 ++ (word o 1
    ++ (word o 4096 ++ (word o 1024 ++ (word o 4 ++ (word o 10
    ++ (zero_bytes 40 ++ (word o 2048 ++ (zero_bytes 8 ++ (word o 1024 ++ (word o 32 ++ (zero_bytes 4 ++ (word o 0
    ++ (zero_bytes 20 ++ (word o 32 ++ (word o 1024 ++ (word o 1024
    ++ (zero_bytes 12 ++ (word o 1 ++ (word o 1 ++ (word o 32 ++ (word o 128
    ++ (word o 1 ++ (word o 22 ++ (word o 29 ++ (word o 6 ++
    (zero_bytes 4 ++ ((mount_bytes ++ zero_bytes 508) ++ (zero_bytes 596 ++ (word o 60 ++ (word o 2 ++ (zero_bytes 28
    ++ (word o 1 ++ (zero_bytes 12 ++ word o 72020))))))))))))))))))))))))))))))))))))))))))

-- the bytes, with another number of four bytes at a place
unfoldable pub changed : Order → (place number : ℕ) → List ℕ → List ℕ
changed order place number bytes = take place bytes ++ (word order number ++ drop (place + 4) bytes)

-- an image of 131,072 bytes with a superblock and a copy of it
unfoldable pub image_of : List ℕ → List ℕ → List ℕ
image_of primary copy = zero_bytes 8192 ++ (primary ++ (zero_bytes 6816 ++ (copy ++ zero_bytes 113312)))

-- the first fault of an image, if there is one
unfoldable pub fault_of : List ℕ → Option ℕ → Option SuperFault
fault_of image sector = result_err (outcome image sector)

-- the first fault of an image with this superblock and this copy
abbrev pub fault_with : List ℕ → List ℕ → Option SuperFault
fault_with primary copy = fault_of (image_of primary copy) None

-- the layout of `base_layout` with a second group, which is cut short by the volume's size and
-- whose parts begin four fragments above its base
unfoldable pub two_groups : Order → Layout
two_groups order = record {
  order = order;
  sblkno = 16;
  cblkno = 24;
  iblkno = 28;
  dblkno = 32;
  cgoffset = pos 4;
  cgmask = 0;
  size = 250;
  dsize = 201;
  ncg = 2;
  bsize = 4096;
  fsize = 1024;
  frag = 4;
  sbsize = 2048;
  nindir = 1024;
  inopb = 32;
  csaddr = 32;
  cssize = 1024;
  cgsize = 1024;
  ncyl = 2;
  cpg = 1;
  ipg = 32;
  fpg = 128;
  maxsymlinklen = 60;
  inodefmt = 2;
  postblformat = 1;
}

-- the bytes of inode 2, whose directory is at fragment 36, and the 512 bytes of that directory
unfoldable pub root_inode : Order → List ℕ
root_inode o =
    bytes_in o 2 16877 ++ (bytes_in o 2 2 ++ (zero_bytes 4 ++ (bytes_in o 8 512
    ++ (zero_bytes 24 ++ (word o 36 ++ (zero_bytes 60 ++ (word o 2 ++ zero_bytes 20)))))))

unfoldable pub root_chunk : Order → List ℕ
root_chunk o =
    word o 2 ++ (bytes_in o 2 12 ++ ((4 ∷ 1 ∷ 46 ∷ 0 ∷ 0 ∷ 0 ∷ [])
    ++ (word o 2 ++ (bytes_in o 2 500 ++ ((4 ∷ 2 ∷ 46 ∷ 46 ∷ []) ++ zero_bytes 490)))))

-- the summary record of the base volume's group, and its group block
unfoldable pub base_summary : Order → List ℕ
base_summary o = word o 1 ++ (word o 22 ++ (word o 29 ++ word o 6))

unfoldable pub base_group : Order → List ℕ
base_group o =
    zero_bytes 4 ++ (word o 590421 ++ (zero_bytes 4 ++ (word o 0 ++ (zero_bytes 4
    ++ (word o 128 ++ (base_summary o ++ (zero_bytes 12 ++ (word o 0 ++ (word o 0 ++ (word o 0
    ++ (word o 2 ++ (zero_bytes 16 ++ (zero_bytes 8 ++ (word o 168 ++ (word o 172 ++ (zero_bytes 68
    ++ ((7 ∷ 0 ∷ 0 ∷ 0 ∷ 0 ∷ 0 ∷ 0 ∷ 0 ∷ 238 ∷ []) ++ replicate 11 255)))))))))))))))))

-- the whole image of `base_layout`: 131,072 bytes
unfoldable pub base_image : Order → List ℕ
base_image o =
    zero_bytes 8192 ++ (base_super o ++ (zero_bytes 6816 ++ (base_super o
    ++ (zero_bytes 6816 ++ (base_group o ++ (zero_bytes 4164 ++ (root_inode o ++ (zero_bytes 3712
    ++ (base_summary o ++ (zero_bytes 4080 ++ (root_chunk o ++ zero_bytes 93696)))))))))))
