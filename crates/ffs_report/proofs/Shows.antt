-- How bytes are shown, part by part.
use Rattle.std.proofs.Common.{◌≡◌, ◌∙◌, ◌+◌, ◌-◌, ◌≤◌, ◌||◌, ℕ, List, [], ◌∷◌, ◌++◌, length, take, drop}
use Rattle.std.proofs.Common.{map, refl, sym, ap, subst, arith, false, Bool, if◌then◌else◌}
use Rattle.std.{specs.List.list_any, proofs.lemmas.{Bool.or_parts, List.{Folds.list_any-append, take-append-drop}}}
use Rattle.std.proofs.{lemmas.List.{take_all, length-drop, map-append}, Math.Seq.take-add}
use Rattle.ffs_volume.specs.Messages.Shown.{is_control, shown}
use Rattle.ffs_report.{specs.Sink.{Sink, Took, BrokeOff}, proofs.Sinks.{broke_off_after, broke_off_more, took_then}}

-- bytes without a control byte show as they are
pub shown_plain : (bytes : List ℕ) → list_any is_control bytes ≡ false → map shown bytes ≡ bytes
shown_plain [] e = refl
shown_plain (b ∷ bytes) e =
    let p = or_parts (is_control b) (list_any is_control bytes) e in
    ap (λ (control : Bool). (if control then 63 else b) ∷ map shown bytes) p.0
    ∙ ap (λ (xs : List ℕ). b ∷ xs) (shown_plain bytes p.1)

-- the bytes before a place are those before another, and those between
parts : (bytes : List ℕ) (from to : ℕ) → from ≤ to →
    map shown (take to bytes) ≡ map shown (take from bytes) ++ map shown (take (to - from) (drop from bytes))
parts bytes from to order =
    let all : to ≡ from + (to - from) = omega (arith, order) in
    ap (λ n. map shown (take n bytes)) all
    ∙ ap (map shown) (take-add from (to - from) bytes)
    ∙ map-append shown (take from bytes) (take (to - from) (drop from bytes))

-- it failed in a part
pub broke_off_part : (a b c : Sink) (bytes : List ℕ) (from to : ℕ) → from ≤ to →
    Took a b (map shown (take from bytes)) → BrokeOff b c (map shown (take (to - from) (drop from bytes))) →
    BrokeOff a c (map shown bytes)
broke_off_part a b c bytes from to order p q =
    subst (BrokeOff a c) (sym (map-append shown (take to bytes) (drop to bytes))
    ∙ ap (map shown) (take-append-drop to bytes))
    (broke_off_more a c (map shown (take to bytes)) (map shown (drop to bytes))
    (subst (BrokeOff a c) (sym (parts bytes from to order))
    (broke_off_after a b c (map shown (take from bytes)) (map shown (take (to - from) (drop from bytes))) p q)))

-- a part more went out
pub shown_part : (a b c : Sink) (bytes : List ℕ) (from to : ℕ) → from ≤ to →
    Took a b (map shown (take from bytes)) → Took b c (map shown (take (to - from) (drop from bytes))) →
    Took a c (map shown (take to bytes))
shown_part a b c bytes from to order p q =
    subst (Took a c) (sym (parts bytes from to order))
    (took_then a b c (map shown (take from bytes)) (map shown (take (to - from) (drop from bytes))) p q)

-- a test of two parts that overlap is a test of all
pub any_overlap : (p : ℕ → Bool) (xs : List ℕ) (m k : ℕ) → k ≤ m → m ≤ length xs →
    (list_any p (take m xs) || list_any p (take (length xs - k) (drop k xs))) ≡ list_any p xs
any_overlap p xs m k le within =
    let middle = take (m - k) (drop k xs) in
    let rest = drop (m - k) (drop k xs) in
    let e : k + (m - k) ≡ m = omega arith in
    let rest_all : take (length xs - k) (drop k xs) ≡ drop k xs =
    take_all (length xs - k) (drop k xs) (omega (arith, length-drop k xs)) in
    let front : list_any p (take m xs) ≡ (list_any p (take k xs) || list_any p middle) =
    grind (arith, take-add, list_any-append) in
    let back : list_any p (drop k xs) ≡ (list_any p middle || list_any p rest) =
    ap (list_any p) (sym (take-append-drop (m - k) (drop k xs))) ∙ list_any-append p middle rest in
    let all : list_any p xs ≡ (list_any p (take k xs) || list_any p (drop k xs)) =
    ap (list_any p) (sym (take-append-drop k xs)) ∙ list_any-append p (take k xs) (drop k xs) in
    rw (rest_all, front, back, all, back) (grind arith)
