-- Laws of the ways in which a check ends: of messages one after the other, and where more is known.
use Rattle.std.proofs.Common.{arith, ◌≡◌, ◌⊎◌, ◌∙◌, inl, inr, sym, subst, false, List, [], ◌∷◌, ◌++◌, append_assoc}
use Rattle.std.proofs.lemmas.List.Concat.{flat_map-append}
use Rattle.ffs_volume.specs.{declared.End.{End, TheVariants.WriteFault}, Messages.{Kinds.Message, Texts.{text_of, texts_of}}}
use Rattle.ffs_report.{specs.{Sink.{BrokeOff, Sink, Took}, Progress.{Progress, Stopped}}, proofs.Sinks.broke_off_after}
use Rattle.ffs_report.proofs.Sinks.{broke_off_more, took_then}
use Rattle.ffs_check.specs.{Ends.{BrokeOffAfter, Cut, Ends}, Moment.Moment, AllPhases.LineEnds}

-- ---- messages that went out, and then others
pub took_messages : (a b c : Sink) (xs ys : List Message) → Took a b (texts_of xs) → Took b c (texts_of ys) →
    Took a c (texts_of (xs ++ ys))
took_messages a b c xs ys p q =
    subst (Took a c) (sym (flat_map-append text_of xs ys)) (took_then a b c (texts_of xs) (texts_of ys) p q)

pub broke_after : (a b c : Sink) (xs ys : List Message) → Took a b (texts_of xs) → BrokeOff b c (texts_of ys) →
    BrokeOff a c (texts_of (xs ++ ys))
broke_after a b c xs ys p q =
    subst (BrokeOff a c) (sym (flat_map-append text_of xs ys)) (broke_off_after a b c (texts_of xs) (texts_of ys) p q)

-- it broke off among the first of them
pub broke_more : (a b : Sink) (xs ys : List Message) → BrokeOff a b (texts_of xs) → BrokeOff a b (texts_of (xs ++ ys))
broke_more a b xs ys p =
    subst (BrokeOff a b) (sym (flat_map-append text_of xs ys)) (broke_off_more a b (texts_of xs) (texts_of ys) p)

-- where a report stops that had not failed, its output broke off
pub broke_off : (a b : Progress) (messages : List Message) → a.failed ≡ false → Stopped a b messages →
    BrokeOff a.sink b.sink (texts_of messages)
broke_off a b messages working s = grind arith

-- a fault's line after whole messages
pub line_after : (a : Sink) (b c : Progress) (said : List Message) (line : Message) (cut_end end : End) →
    Took a b.sink (texts_of said) → b.failed ≡ false → LineEnds b c line cut_end end →
    (Took a c.sink (texts_of (said ++ (line ∷ []))) × (end ≡ cut_end))
    ⊎ (BrokeOffAfter a c.sink said (line ∷ []) × (end ≡ WriteFault))
line_after a b c said line cut_end end went working ends = elim ends [
  | inl whole ↦ inl (took_messages a b.sink c.sink said (line ∷ []) went whole.0.took, whole.1)
  | inr part ↦ inr (
    record {
      between = b.sink;
      went_out = went;
      broke_off = broke_off b c (line ∷ []) working part.0;
    },
    part.1,
  )
]

-- where more is known of the end and of a cut
pub ends_known : {old new : Moment} {text : List Message} {IsEnd IsEnd' : End → Type 0} {IsCut IsCut' : Cut → Type 0}
    {end : End} → (IsEnd end → IsEnd' end) → ((cut : Cut) → IsCut cut → IsCut' cut) →
    Ends old new text IsEnd IsCut end → Ends old new text IsEnd' IsCut' end
ends_known to_end to_cut (inl read) = inl (record {
  image = read.image;
  ends = elim read.ends [ inl whole ↦ inl (whole.0, to_end whole.1) | inr part ↦ inr part ];
})
ends_known to_end to_cut (inr short) =
    inr (record { cut = short.cut; is_cut = to_cut short.cut short.is_cut; ends = short.ends })

-- a text is cut short there where others come before it
abbrev pub cut_after : List Message → Cut → Cut
cut_after earlier cut = record { said = earlier ++ cut.said; line = cut.line; end = cut.end }

-- the messages before a text come first, and then what went out of it
pub ends_after : (earlier : List Message) {a b c : Moment} {text : List Message} {IsEnd IsEnd' : End → Type 0}
    {IsCut IsCut' : Cut → Type 0} {end : End} → b.image ≡ a.image → Took a.out b.out (texts_of earlier) →
    (IsEnd end → IsEnd' end) → ((cut : Cut) → IsCut cut → IsCut' (cut_after earlier cut)) →
    Ends b c text IsEnd IsCut end → Ends a c (earlier ++ text) IsEnd' IsCut' end
ends_after earlier {a} {b} {c} {text} same went to_end to_cut (inl read) = inl (record {
  image = read.image ∙ same;
  ends = elim read.ends [
    | inl whole ↦ inl (took_messages a.out b.out c.out earlier text went whole.0, to_end whole.1)
    | inr part ↦ inr (broke_after a.out b.out c.out earlier text went part.0, part.1)
  ];
})
ends_after earlier {a} {b} {c} {text} same went to_end to_cut (inr short) =
    let cut = short.cut in
    inr (record {
      cut = cut_after earlier cut;
      is_cut = to_cut cut short.is_cut;
      ends = elim short.ends [
        | inl whole ↦ inl (
          subst (λ (xs : List Message). Took a.out c.out (texts_of xs))
              (sym (append_assoc earlier cut.said (cut.line ∷ [])))
              (took_messages a.out b.out c.out earlier (cut.said ++ (cut.line ∷ [])) went whole.0),
          whole.1,
        )
        | inr part ↦ inr (
          record {
            between = part.0.between;
            went_out = took_messages a.out b.out part.0.between earlier cut.said went part.0.went_out;
            broke_off = part.0.broke_off;
          },
          part.1,
        )
      ];
    })
