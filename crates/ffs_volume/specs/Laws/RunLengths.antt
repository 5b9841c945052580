-- How long the Runs of an inode are: no rule, but a fact of all steps that contracts and proofs need.
use Rattle.std.specs.Prelude.{ℕ, ◌<◌, ◌≤◌}
use Rattle.ffs_volume.specs.declared.Step.{Step, TheVariants.{Run, Tail, Gap}}

-- a Run has at least one fragment, and at most `frag`, those of a block; a Tail or a Gap has no
-- length, and nothing is asked of it. All steps of an inode are so
abbrev pub HasLength : ℕ → Step → Type 0
HasLength frag (Run start len block) = (0 < len) × (len ≤ frag)
HasLength frag Tail = Unit {0}
HasLength frag Gap = Unit {0}
