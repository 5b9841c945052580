-- Inodes that aren't looked at: those that are no directories, and directories of size 0.
use Rattle.std.proofs.{lemmas.Bool.{and_parts, Decides.nat_tests}, Common.{◌≡◌, ◌<◌, ◌==◌, ap, ◌∙◌, ℕ, Bool, true}}
use Rattle.std.proofs.Common.{false, not, ◌&&◌, List, [], arith}
use Rattle.ffs_volume.specs.{declared.Layout.Layout, Laws.Geometry.IsAcceptedLayout, Blocks.Inodes.inode_of}
use Rattle.ffs_volume.{specs.{Blocks.KeptSteps.kept_steps_of, Directories.Graph.is_naming_dir}, proofs.Sizes.no_steps}
use Rattle.ffs_volume.specs.Directories.{Roles.{is_dir, roled_entries}, Naming.graph_of, PathnameCheck.is_sized_dir}
use Rattle.ffs_volume.specs.{Directories.Volumes.{volume_with, volume_of, kept_steps_of_inode}, Encodings.Kinds.kind_at}
use Rattle.ffs_volume.specs.Encodings.Kinds.{is_dir_kind, is_empty_dir_kind}
use Rattle.ffs_workspace.proofs.KindLaws.{dir_is, empty_is}

none_kept : (v : Layout) (b : List ℕ) (d : ℕ) → 0 < v.bsize → (inode_of v b d).size ≡ 0 → kept_steps_of_inode v b d ≡ []
unfolding kept_steps_of
none_kept v b d h z = rw (no_steps v b (inode_of v b d) h z) (grind arith)

-- no entries where the size is 0
none_seen : (v : Layout) (b : List ℕ) (d : ℕ) → IsAcceptedLayout v → ((volume_of v b).inode d).size ≡ 0 →
    roled_entries (volume_of v b) d ≡ []
unfolding volume_of volume_with roled_entries
none_seen v b d g z = grind (arith, ap, none_kept)

-- of two tests of a directory and its kind
kind_looked : (dir empty : Bool) (k : ℕ) → dir ≡ is_dir_kind k → (dir && empty) ≡ is_empty_dir_kind k →
    (dir && not empty) ≡ (k == 4)
kind_looked dir empty k e f = grind (arith, nat_tests)

-- the inodes of the kind 4 are looked at
pub looked_is : (v : Layout) (b : List ℕ) (d : ℕ) → is_sized_dir (volume_of v b) d ≡ (kind_at v b d == 4)
looked_is v b d = grind (arith, kind_looked, dir_is, empty_is)

pub looked_dir : (v : Layout) (b : List ℕ) (d : ℕ) → (kind_at v b d == 4) ≡ true → is_dir (volume_of v b) d ≡ true
looked_dir v b d h = (and_parts (is_dir (volume_of v b) d) _ (looked_is v b d ∙ h)).0

-- an inode that isn't looked at names nothing
pub names_none : (v : Layout) (b : List ℕ) (d : ℕ) → IsAcceptedLayout v → (kind_at v b d == 4) ≡ false → (x : ℕ) →
    is_naming_dir (graph_of (volume_of v b)) d x ≡ false
names_none v b d g h x =
    let looked = looked_is v b d in
    let seen = none_seen v b d g in
    grind (arith, nat_tests)
