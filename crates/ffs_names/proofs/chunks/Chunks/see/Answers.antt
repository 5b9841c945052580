use Rattle.std.proofs.{Common.{◌≡◌, ◌∙◌, ◌==◌, true, arith, inl, refl, sym, ap}, lemmas.Bool.Decides.nat_tests}
use Rattle.ffs_names.{specs.declared.chunks.Chunks.Chunks, proofs.Advances.{SeesBy, no_data, sees_chunks, sees_none}}
use Rattle.ffs_names.proofs.{ReadCounts.entered_none, chunks.Chunks.see.Goals.After-take}
use Rattle.ffs_names.proofs.chunks.Chunks.see.Goals as goal

-- the Run is counted and replayed, and the rest stays, but for the current Run
seen : (c : After-take) {new : Chunks} → new.walk ≡ c.args.self.now.walk → new.bytes_to_read ≡
    c.args.self.now.bytes_to_read → new.keeping ≡ c.take.new.self → new.runs ≡ c.saturating_add-self.result → new.gap ≡
    c.args.self.now.gap → SeesBy c.args.self.now new c.args.start c.args.len c.args.block c.take.result
seen c walk bytes keeping runs gap = record {
  can = c.requires;
  walk = walk;
  bytes_to_read = bytes;
  cut = ap (λ k. k.cut) keeping ∙ c.take.ensures.cut;
  replays = rw keeping (c.take.ensures.replays c.args.self.now.walk.geometry.layout c.args.start c.args.block
      c.in_range-in_range.ensures);
  runs = runs ∙ c.saturating_add-self.ensures;
  gap = gap;
}

-- it has chunks where it is one of data, kept whole and in range
pub returns-in-Some-clause-sees : goal.returns-in-Some-clause-sees
returns-in-Some-clause-sees c =
    let whole : (c.take.result == c.args.len) ≡ true = grind (arith, nat_tests) in
    let block = entered_none c.args.start c.args.len c.args.block c.in-Some.block c.in-Some.is in
    sees_chunks (seen (goal.at.returns-in-Some-clause-sees c).After-take refl refl refl refl refl)
    (λ b. rw (whole, c.in-Some.is, sym c.in_range-in_range.ensures ∙ c.if-not-in_range.false)
    (c.of_run-self.ensures.chunks b))
    (grind (arith, block, nat_tests))
    (inl c.of_run-self.ensures.first)

pub returns-in_default-clause-sees : goal.returns-in_default-clause-sees
returns-in_default-clause-sees c = sees_none (seen (goal.at.returns-in_default-clause-sees c).After-take refl refl refl
    refl refl) refl (λ b whole. rw c.in_default.is refl)

pub returns-then-take-len-clause-sees : goal.returns-then-take-len-clause-sees
returns-then-take-len-clause-sees c = sees_none (seen (goal.at.returns-then-take-len-clause-sees c).After-take refl refl
    refl refl refl) refl (λ b whole. absurd (grind (arith, nat_tests)))

pub returns-then-not-in_range-clause-sees : goal.returns-then-not-in_range-clause-sees
returns-then-not-in_range-clause-sees c =
    sees_none (seen (goal.at.returns-then-not-in_range-clause-sees c).After-take refl refl refl refl refl) refl
    (λ b whole. no_data _ b _ _ _ c.args.block (sym c.in_range-in_range.ensures ∙ c.if-not-in_range.true))
