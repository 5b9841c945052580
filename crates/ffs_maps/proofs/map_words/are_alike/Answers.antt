use Rattle.std.proofs.{Common.{◌≡◌, ℕ, arith, ap, refl, bit_or, nat_eq}, lemmas.Bool.{eqb-true}}
use Rattle.std.proofs.lemmas.{List.Elements.{All-from_get_or, All-get_or}, Nat.Bits.{bit_at_or, bit_at_xor, bit_at-lt}}
use Rattle.std.{proofs.lemmas.Nat.Bits.{bit_at-zero, same_from_bits}, specs.Int.{RustNames.bit_xor, Bits.xor_self}}
use Rattle.std.specs.Int.{bit_at}
use Rattle.ffs_maps.proofs.map_words.are_alike.Goals as goal

none_of : (a b : ℕ) → bit_or a b ≡ 0 → (a ≡ 0) × (b ≡ 0)
none_of a b e = (
  same_from_bits a 0 (λ i. let none = ap (λ x. bit_at x i) e in omega (arith, none, bit_at_or a b i, bit_at-zero i)),
  same_from_bits b 0 (λ i. let none = ap (λ x. bit_at x i) e in omega (arith, none, bit_at_or a b i, bit_at-zero i)),
)

no_difference : (a b : ℕ) → bit_xor a b ≡ 0 → a ≡ b
no_difference a b e = same_from_bits a b (λ i.
    let none = ap (λ x. bit_at x i) e in
    omega (arith, none, bit_at_xor a b i, bit_at-lt a i, bit_at-lt b i, bit_at-zero i))

pub loop-index-init : goal.loop-index-init
loop-index-init c = (λ none k low. absurd (omega arith), λ same. refl)

pub loop-index-preserved : goal.loop-index-preserved
loop-index-preserved c = grind (arith, no_difference, none_of, xor_self)

pub returns : goal.returns
returns c =
    let words = c.args.words.now in
    let word = c.args.word in
    let invariant = c.loop-index.invariant in (
      λ same. All-from_get_or (λ w. w ≡ word) words 0
          (λ k low. invariant.0 (eqb-true c.loop-index.differ 0 same) k (omega (arith, low, c.loop-index-test.false))),
      λ all. ap (λ n. nat_eq n 0)
          (invariant.1 (λ k low. All-get_or (λ w. w ≡ word) words k 0 (omega (arith, low)) all)),
    )
