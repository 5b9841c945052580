-- What is kept of the line of a duplicate.
use Rattle.std.proofs.Common.{◌≡◌, ◌∙◌, ◌+◌, ◌^◌, ◌<◌, ◌≤◌, ℕ, List, ◌++◌, length, drop, sym, ap, rules, decimal}
use Rattle.std.proofs.{lemmas.{Fmt.length-decimal-le, List.drop-drop}, Math.Seq.drop-append_seam}

-- a text that was put before a place leaves what is from that place on
pub put_leaves : (bytes text rest : List ℕ) (start place : ℕ) → start + length text ≡ place →
    drop start bytes ≡ text ++ rest → drop place bytes ≡ rest
put_leaves bytes text rest start place e p =
    ap (λ (n : ℕ). drop n bytes) (sym e) ∙ sym (drop-drop (length text) start bytes)
    ∙ ap (drop (length text)) p ∙ drop-append_seam text rest

-- how many digits a number of 32 bits has
pub short_number : (n : ℕ) → n < 2 ^ 32 → length (decimal n) ≤ 10
short_number n h = search (rules, length-decimal-le 10)
