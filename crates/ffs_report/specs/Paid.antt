-- How often an image was read for the messages that a call said: for each at a price, beside what
-- was left for other reads before and after.
use Rattle.std.specs.Prelude.{◌≡◌, ◌≤◌, ◌+◌, ◌*◌, ℕ, List, [], length, Result, Ok, Err}
use Rattle.ffs_volume.specs.Messages.Kinds.{Message}
use Rattle.ffs_report.specs.{Progress.{Progress, Said, Stopped}, declared.fault.RunFault.{RunFault, TheVariants.Read}}
use Rattle.ffs_report.specs.declared.fault.RunFault.TheVariants.{Out}

-- a last message was begun, or none: none at Ok, perhaps one at a read's fault, of which nothing was
-- said, and at the output's own fault that failed within it
abbrev pub LastBegun : {T : Type 0} → List Message → (old new : Progress) → Result T RunFault → Type 0
LastBegun last old new (Ok x) = (last ≡ []) × (new ≡ old)
LastBegun last old new (Err (Read fault)) = new ≡ old
LastBegun last old new (Err (Out fault)) = Stopped old new last

-- messages were said, after them a last one was begun, or none, and `after` is at most `before` and the
-- price of each of them
pub record Paid {T : Type 0} (price : ℕ) (old new : Progress) (before after : ℕ) (result : Result T RunFault) :
    Type 0 where
  pub messages : List Message
  pub last : List Message
  pub few : length last ≤ 1
  pub between : Progress
  pub said : Said old between messages
  pub begun : LastBegun last between new result
  pub most : after ≤ before + price * (length messages + length last)
