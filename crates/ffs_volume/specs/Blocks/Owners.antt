-- The inodes of an image, as phase 1 sees them. An owner is an inode that may own fragments, not
-- the user of a file.
use Rattle.std.specs.{Prelude.{ℕ, ◌*◌, ◌-◌, List, [], map}, List.{flat_map, range_with_len}}
use Rattle.ffs_volume.specs.declared.{Layout.Layout, Class.Class, Step.{Step, TheVariants.{Run, Tail, Gap}}}
use Rattle.ffs_volume.specs.Blocks.{Inodes.{inode_of, class_of}, Steps.steps_of}

-- what phase 1 uses of an inode, also of a free one: its number, class, steps and blocks field, in
-- sectors
pub record Owner : Type 0 where
  pub number : ℕ
  pub class : Class
  pub steps : List Step
  pub blocks : ℕ

-- the inode x of an image, as phase 1 sees it
unfoldable pub owner_of : (v : Layout) (image : List ℕ) (x : ℕ) → Owner
owner_of v image x = record {
  number = x;
  class = class_of v (inode_of v image x);
  steps = steps_of v (inode_of v image x) image;
  blocks = (inode_of v image x).blocks;
}

-- the numbers of all inodes from 2 on, ascending
abbrev pub inode_numbers : Layout → List ℕ
inode_numbers v = range_with_len 2 (v.ncg * v.ipg - 2)

-- all inodes from 2 on as phase 1 sees them, ascending
unfoldable pub owners_of : Layout → List ℕ → List Owner
owners_of v image = map (owner_of v image) (inode_numbers v)

-- the fragments of a step: only a Run has any
abbrev pub step_fragments : Step → List ℕ
step_fragments (Run start len block) = range_with_len start len
step_fragments Tail = []
step_fragments Gap = []

-- the fragments of all Runs, in order
abbrev pub fragments_of : List Step → List ℕ
fragments_of steps = flat_map step_fragments steps

-- the steps of all these inodes, in order
abbrev pub all_steps : List Owner → List Step
all_steps owners = flat_map (λ o. o.steps) owners
