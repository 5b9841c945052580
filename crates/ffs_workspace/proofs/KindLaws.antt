-- What the kind of an inode reports of it.
use Rattle.std.proofs.Common.{◌≡◌, ◌<◌, ℕ, Bool, true, false, ◌&&◌, ◌||◌, ◌==◌, List, arith, refl, ap}
use Rattle.std.proofs.{Common.{◌∙◌}, lemmas.Bool.Decides.nat_tests}
use Rattle.ffs_volume.specs.declared.{Layout.Layout, Inode.Inode, Class.{Class, TheVariants.{Free, Partial, Unknown}}}
use Rattle.ffs_volume.specs.{declared.Class.TheVariants.{File, Dir}, Blocks.Inodes.{inode_of, type_of, class_of}}
use Rattle.ffs_volume.specs.Blocks.Inodes.{is_file_or_dir, is_known_type, is_directory, is_allocated, is_unknown}
use Rattle.ffs_volume.specs.Directories.{Roles.{is_dir, is_allocated_inode, is_suspect}, Volumes.class_at}
use Rattle.ffs_volume.specs.Directories.Volumes.{is_inode_number, volume_of, volume_with, marked_at}
use Rattle.ffs_volume.specs.Encodings.Kinds.{kind_of, kind_at, is_dir_kind, is_empty_dir_kind, is_allocated_kind}
use Rattle.ffs_volume.specs.Encodings.Kinds.{is_unknown_kind, class_of_kind, type_of_kind}

-- what the class of an inode says of its type
abbrev type_facts : Class → ℕ → Type 0
type_facts Dir kind = kind ≡ 4
type_facts File kind = (is_known_type kind ≡ true) × ((kind == 4) ≡ false)
type_facts Free kind = Unit {0}
type_facts Partial kind = Unit {0}
type_facts Unknown kind = Unit {0}

class_type : (v : Layout) (i : Inode) → type_facts (class_of v i) (type_of i.mode)
unfolding class_of
class_type v i = grind (arith, nat_tests)

-- the same of a number
facts_at : (v : Layout) (image : List ℕ) (x : ℕ) → type_facts (class_at v image x) (type_of (inode_of v image x).mode)
facts_at v image x = grind (arith, class_type)

known_kind : (k : ℕ) → is_known_type k ≡ true → (k == 4) ≡ false → ((k == 0) ≡ false) × ((k == 5) ≡ false)
    × ((k == 15) ≡ false) × (k < 16)
known_kind k known apart = grind (arith, nat_tests)

-- all that the kind says
pub record IsContents (c : Class) (i : Inode) (k : ℕ) : Type 0 where
  pub dir : is_directory c ≡ is_dir_kind k
  pub empty : (is_directory c && (i.size == 0)) ≡ is_empty_dir_kind k
  pub allocated : is_allocated c ≡ is_allocated_kind k
  pub unknown : is_unknown c ≡ is_unknown_kind k
  pub small : k < 16

kind_reports : (c : Class) (i : Inode) → type_facts c (type_of i.mode) → IsContents c i (kind_of c i)
kind_reports Dir i h = grind arith
kind_reports c i h = grind (arith, known_kind)

pub reports_at : (v : Layout) (image : List ℕ) (x : ℕ) →
    IsContents (class_at v image x) (inode_of v image x) (kind_at v image x)
unfolding kind_at
reports_at v image x = kind_reports (class_at v image x) (inode_of v image x) (facts_at v image x)

-- a number that is no inode's has the kind 0
class_inside : (v : Layout) (image : List ℕ) (x : ℕ) (test : Class → Bool) → test Free ≡ false →
    (is_inode_number v x && test (class_at v image x)) ≡ test (class_at v image x)
class_inside v image x test out = grind arith

-- the tests of the checks of directories, by the kind
pub dir_is : (v : Layout) (image : List ℕ) (x : ℕ) → is_dir (volume_of v image) x ≡ is_dir_kind (kind_at v image x)
unfolding volume_of volume_with
dir_is v image x = class_inside v image x is_directory refl ∙ (reports_at v image x).dir

pub some_is : (v : Layout) (image : List ℕ) (x : ℕ) → is_allocated_inode (volume_of v image) x
    ≡ is_allocated_kind (kind_at v image x)
unfolding volume_of volume_with
some_is v image x = class_inside v image x is_allocated refl ∙ (reports_at v image x).allocated

pub empty_is : (v : Layout) (image : List ℕ) (x : ℕ) →
    (is_dir (volume_of v image) x && (((volume_of v image).inode x).size == 0)) ≡ is_empty_dir_kind (kind_at v image x)
unfolding volume_of volume_with
empty_is v image x = grind (arith, class_inside, reports_at)

pub suspect_is : (v : Layout) (image : List ℕ) (x : ℕ) → is_suspect (volume_of v image) x
    ≡ (marked_at v image x || is_empty_dir_kind (kind_at v image x))
unfolding volume_of volume_with
suspect_is v image x = ap (λ (b : Bool). marked_at v image x || b) (empty_is v image x)

-- the type of a file or directory
pub type_is : (v : Layout) (image : List ℕ) (x : ℕ) → is_file_or_dir (class_at v image x) ≡ true →
    type_of_kind (kind_at v image x) ≡ type_of (inode_of v image x).mode
unfolding kind_at
type_is v image x settled = let facts = facts_at v image x in grind (arith, known_kind)

-- the class, where it isn't Partial
pub class_is : (v : Layout) (image : List ℕ) (x : ℕ) → (class_at v image x ≡ Partial → ⊥) →
    class_of_kind (kind_at v image x) ≡ class_at v image x
unfolding kind_at
class_is v image x whole = let facts = facts_at v image x in grind (arith, known_kind)
