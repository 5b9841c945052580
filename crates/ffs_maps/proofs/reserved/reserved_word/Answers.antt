use Rattle.std.proofs.Common.{◌≡◌, ◌-◌, ◌+◌, ◌*◌, ◌≤◌, ◌<◌, ◌∙◌, ◌&&◌, ℕ, Bool, arith, cond, bit_or, inl, inr, ap, sym}
use Rattle.std.{proofs.lemmas.{Bool.cases_lt, Nat.Bits.bit_at_or}, specs.{Int.bit_at, Prelude.Some}}
use Rattle.ffs_maps.{specs.Reserved.is_between, proofs.{Words.reserved_from_bits, Runs.none_past_size}}
use Rattle.ffs_maps.proofs.reserved.reserved_word.Goals as goal

-- a stretch has no bits past its end
none_above : (b : Bool) (start end word bits k : ℕ) → start ≤ end → end ≤ k → bit_at word k ≡ 0 →
    bit_at bits k ≡ cond (b && is_between start end k) 1 0 → bit_at (bit_or word bits) k ≡ 0
none_above b start end word bits k order past none is = grind (arith, bit_at_or)

pub loop-fragment-preserved : goal.loop-fragment-preserved
loop-fragment-preserved c =
    let v = c.args.geometry.now.layout in
    let inv = c.loop-fragment.invariant in
    let s = c.stretch_from-stretch in
    let fragment = c.loop-fragment.fragment in
    let next = c.min-next.result in
    let on : fragment < next = omega (arith, c.min-next.ensures, s.ensures.some, c.loop-fragment-test.true) in
    record {
      low = λ k h. grind (arith, bit_at_or);
      high = λ k h. none_above s.result.reserved (fragment - 64 * c.args.index) (next - 64 * c.args.index)
          c.loop-fragment.word c.bits_between-word.result k (omega (arith, on)) h (inv.high k (omega (arith, h, on)))
          (c.bits_between-word.ensures k);
      from = omega (arith, on, inv.from);
      within = omega (arith, c.min-next.ensures);
    }

pub returns : goal.returns
returns c =
    let g = c.args.geometry.now in
    let inv = c.loop-fragment.invariant in
    let fragment = c.loop-fragment.fragment in
    reserved_from_bits (Some g) c.args.index c.loop-fragment.word
    (λ k h. elim (cases_lt k (fragment - 64 * c.args.index)) [
      | inl low ↦ inv.low k low
      | inr past ↦ inv.high k past ∙ ap (λ b. cond b 1 0) (sym (none_past_size g.layout (64 * c.args.index + k) g.sound
          (omega (arith, past, h, c.min-limit.ensures, c.loop-fragment-test.false))))
    ])
    (λ k h. inv.high k (omega (arith, h, inv.within, c.min-limit.ensures)))
