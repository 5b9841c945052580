-- How a check that prints a text ends: the whole text went out; or a failed read or refused memory cut
-- it short, and the line that says so went out last; or the output failed.
use Rattle.std.specs.Prelude.{◌≡◌, ◌⊎◌, List, [], ◌∷◌, ◌++◌}
use Rattle.ffs_volume.specs.{declared.End.{End, TheVariants.WriteFault}, Messages.{Kinds.Message, Texts.texts_of}}
use Rattle.ffs_report.specs.Sink.{Sink, Took, BrokeOff}
use Rattle.ffs_check.specs.Moment.{Moment}

-- nothing cut the text: all of it went out, and the end is the text's, or the output failed within it; and no read
-- failed
pub record NotCut (old new : Moment) (text : List Message) (IsEnd : End → Type 0) (end : End) : Type 0 where
  pub image : new.image ≡ old.image
  pub ends : (Took old.out new.out (texts_of text) × IsEnd end)
      ⊎ (BrokeOff old.out new.out (texts_of text) × (end ≡ WriteFault))

-- what cuts a text short: the messages that come before it, the line that says why, and the end
pub record Cut : Type 0 where
  pub said : List Message
  pub line : Message
  pub end : End

-- these messages went out whole, and the output failed within those after them
pub record BrokeOffAfter (old new : Sink) (said last : List Message) : Type 0 where
  pub between : Sink
  pub went_out : Took old between (texts_of said)
  pub broke_off : BrokeOff between new (texts_of last)

-- a failed read or refused memory cut the text short: the messages before it and the line that says
-- so went out, and the end is its own; or the output failed within that line
pub record CutShort (old new : Sink) (IsCut : Cut → Type 0) (end : End) : Type 0 where
  pub cut : Cut
  pub is_cut : IsCut cut
  pub ends : (Took old new (texts_of (cut.said ++ (cut.line ∷ []))) × (end ≡ cut.end))
      ⊎ (BrokeOffAfter old new cut.said (cut.line ∷ []) × (end ≡ WriteFault))

-- a check ended in one of these ways
abbrev pub Ends : (old new : Moment) → List Message → (End → Type 0) → (Cut → Type 0) → End → Type 0
Ends old new text IsEnd IsCut end = NotCut old new text IsEnd end ⊎ CutShort old.out new.out IsCut end
