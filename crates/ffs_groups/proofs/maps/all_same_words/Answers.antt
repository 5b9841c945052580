use Rattle.std.proofs.Common.{ℕ, Bool, List, refl, arith, rules, ◌≡◌, ◌+◌, ◌*◌, ◌∙◌, sym, true, false}
use Rattle.ffs_volume.specs.Groups.Records.{bit_at as map_bit, same_bit, has_bits}
use Rattle.ffs_maps.specs.Bits.{bits_of}
use Rattle.ffs_groups.{specs.Free.free_in, proofs.MapWords.{all_fails, map_parts, none_below}}
use Rattle.ffs_groups.proofs.maps.all_same_words.Goals as goal

pub loop-word-init : goal.loop-word-init
loop-word-init c = grind (arith, none_below)

-- where some words are right, and some more are asked about
more : (free : ℕ → Bool) (block : List ℕ) (place base word some : ℕ) (same : Bool) →
    has_bits block place (64 * word) (λ k. free (base + k)) ≡ true →
    same ≡ has_bits block (place + 8 * word) (64 * some) (λ k. free (base + 64 * word + k)) →
    has_bits block place (64 * (word + some)) (λ k. free (base + k)) ≡ same
more free block place base word some same before is =
    map_parts block place word (64 * some) (64 * (word + some)) (place + 8 * word) base free (omega arith) refl
    ∙ rw before (sym is)

pub returns-then-not-same_words_at_once : goal.returns-then-not-same_words_at_once
returns-then-not-same_words_at_once c =
    let free = free_in (bits_of c.args.used.now) c.args.used.now.size in
    let end = c.loop-word.word + c.min-some.result in
    let differ : c.same_words_at_once.result ≡ false = search rules in
    sym (all_fails (64 * c.args.words) (64 * end)
    (λ k. same_bit (map_bit c.args.block.now c.args.place k) (free (c.args.base + k)))
    (omega (arith, c.min-some.ensures))
    (more free c.args.block.now c.args.place c.args.base c.loop-word.word c.min-some.result _
    c.loop-word.invariant.same c.same_words_at_once.ensures ∙ differ))

pub loop-word-preserved : goal.loop-word-preserved
loop-word-preserved c =
    let free = free_in (bits_of c.args.used.now) c.args.used.now.size in
    let agree : c.same_words_at_once.result ≡ true = search rules in
    record {
      same = more free c.args.block.now c.args.place c.args.base c.loop-word.word c.min-some.result _
          c.loop-word.invariant.same c.same_words_at_once.ensures ∙ agree;
      within = omega (arith, c.min-some.ensures);
      at_once = c.next_at_once-at_once.ensures;
    }
