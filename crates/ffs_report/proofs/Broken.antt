-- Where an output failed among messages: some were said, and it failed within the one after them. (For the
-- layers above.)
use Rattle.std.proofs.Common.{◌≡◌, ◌≤◌, ◌+◌, ℕ, refl, sym, ap, ◌∙◌, arith, inl, inr, take, drop, List, [], ◌∷◌}
use Rattle.std.proofs.Common.{◌++◌, length, append_assoc, append-nil, Option, None, Some, ◌||◌}
use Rattle.std.proofs.{lemmas.{Bool.cases_lt, List.{append_cancel_left, take-append-drop, take-append-le}}, Math.Seq.take-append_seam}
use Rattle.std.specs.Io.KnownBytes.{Appends, append_known}
use Rattle.ffs_volume.specs.Messages.{Kinds.{Message, has_defect}, Texts.{text_of, texts_of}}
use Rattle.ffs_report.specs.Progress.{Progress, Said, Stopped}

-- of two ways to cut a text in two, the shorter first part is the front of the other
front : (xs ys p r : List ℕ) → xs ++ ys ≡ p ++ r → length p ≤ length xs → xs ≡ p ++ drop (length p) xs
front xs ys p r same short =
    let taken : take (length p) xs ≡ p = sym (take-append-le (length p) xs ys short) ∙ ap (take (length p)) same
    ∙ take-append_seam p r in
    sym (take-append-drop (length p) xs) ∙ ap (λ t. t ++ drop (length p) xs) taken

-- how far a prefix of the messages' text reaches: through some of them, and into the one after these
record Reaches (ms : List Message) (prefix : List ℕ) : Type 0 where
  pub whole : List Message
  pub last : List Message
  pub part : List ℕ
  pub rest : List ℕ
  pub prefix_is : prefix ≡ texts_of whole ++ part
  pub last_is : texts_of last ≡ part ++ rest
  pub few : length last ≤ 1
  pub some : 1 ≤ length ms → 1 ≤ length whole + length last

reaches : (ms : List Message) (p r : List ℕ) → texts_of ms ≡ p ++ r → Reaches ms p
reaches [] p r same = record {
  whole = [];
  last = [];
  part = p;
  rest = r;
  prefix_is = refl;
  last_is = same;
  few = omega arith;
  some = λ some. some;
}
reaches (m ∷ ms) p r same = elim (cases_lt (length (text_of m)) (length p)) [
  | inl through ↦
      let cut : p ≡ text_of m ++ drop (length (text_of m)) p =
      front p r (text_of m) (texts_of ms) (sym same) (omega (arith, through)) in
      let left : texts_of ms ≡ drop (length (text_of m)) p ++ r =
      append_cancel_left (text_of m) (texts_of ms) (drop (length (text_of m)) p ++ r)
      (same ∙ ap (λ t. t ++ r) cut ∙ append_assoc (text_of m) (drop (length (text_of m)) p) r) in
      let more = reaches ms (drop (length (text_of m)) p) r left in
      record {
        whole = m ∷ more.whole;
        last = more.last;
        part = more.part;
        rest = more.rest;
        prefix_is = cut ∙ ap (λ t. text_of m ++ t) more.prefix_is
            ∙ sym (append_assoc (text_of m) (texts_of more.whole) more.part);
        last_is = more.last_is;
        few = more.few;
        some = λ _. omega arith;
      }
  | inr within ↦ record {
    whole = [];
    last = m ∷ [];
    part = p;
    rest = drop (length p) (text_of m);
    prefix_is = refl;
    last_is = append-nil (text_of m) ∙ front (text_of m) (texts_of ms) p r same within;
    few = omega arith;
    some = λ _. omega arith;
  }
]

-- what is known to be taken: these bytes, and then others
appends_known : (a : Option (List ℕ)) (xs : List ℕ) → Appends a (append_known a xs) xs
appends_known None xs = tt
appends_known (Some bytes) xs = refl

-- how far a report has come once messages were said
abbrev said_after : Progress → List Message → Progress
said_after a ms = record a {
  sink = record a.sink { taken = append_known a.sink.taken (texts_of ms) };
  defect = a.defect || has_defect ms;
}

-- the output failed among these messages: within `last`, after the first ones were said; where there are
-- some, one was begun
pub record StoppedWhere (a b : Progress) (ms : List Message) : Type 0 where
  pub messages : List Message
  pub last : List Message
  pub few : length last ≤ 1
  pub between : Progress
  pub said : Said a between messages
  pub stopped : Stopped between b last
  pub some : 1 ≤ length ms → 1 ≤ length messages + length last

pub stopped_where : (a b : Progress) (ms : List Message) → Stopped a b ms → StoppedWhere a b ms
stopped_where a b ms s =
    let reach = reaches ms s.prefix s.rest s.whole in
    record {
      messages = reach.whole;
      last = reach.last;
      few = reach.few;
      between = said_after a reach.whole;
      said = record {
        output = refl;
        took = record { taken = appends_known a.sink.taken (texts_of reach.whole); failures = refl; holds = refl };
        failed = refl;
        defect = refl;
      };
      stopped = record {
        output = s.output;
        holds = s.holds;
        prefix = reach.part;
        rest = reach.rest;
        whole = reach.last_is;
        taken = grind (arith, append_assoc);
        failed = s.failed;
        cause = s.cause;
      };
      some = reach.some;
    }
