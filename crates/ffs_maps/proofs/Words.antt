-- Words are the same where their parts are, and touching some of them changes none.
use Rattle.std.proofs.Common.{◌≡◌, ◌∙◌, ℕ, zero, suc, ◌+◌, ◌-◌, ◌*◌, ◌<◌, ◌≤◌, ◌++◌, ◌∷◌, [], List, false, true, arith, inl, inr, length, refl, ap, sym}
use Rattle.std.proofs.Common.{replicate, slice_set, vec_len, map, get_or, cond, append_assoc, add-zero, true≢false}
use Rattle.std.{proofs.lemmas.List.{get_or-append_right, get_or_default, same_lists, get_or-replicate, length-append, length-replicate, set-append_left}, specs.Prelude.{is_some, vec_capacity, Option, None, Some}}
use Rattle.std.specs.{Ptr.Ptr, List.range_with_len, Vec.{vec_ptr, with_item}, declared.{vec.Vec.Vec, alloc.Global.Global}}
use Rattle.std.proofs.lemmas.{Simd.bit_mask_l, Nat.Bits.{same_from_bits, bit_at-zero}, List.FromFn.{length-map-range_with_len, get_or-map-range_with_len}}
use Rattle.std.proofs.lemmas.{List.get_or_past, Bool.cases_lt}
use Rattle.std.{proofs.Math.ListN.get_or-append, specs.Int.bit_at}
use Rattle.ffs_volume.specs.Disk.Areas.{is_reserved}
use Rattle.ffs_layout.specs.declared.geometry.Geometry.{Geometry}
use Rattle.ffs_maps.specs.declared.map_words.Stored.{Stored}
use Rattle.ffs_maps.specs.Words.{Words, reserved_bit, reserved_bits, reserved_words, LaysReserved, TouchesStored, TouchesWords}
use Rattle.ffs_memory.specs.Touching.{TouchesTo}

-- the bits of a word that isn't touched
reserved_bits_are : (reserved : Option Geometry) (index k : ℕ) →
    bit_at (reserved_bits reserved index) k
    ≡ cond (get_or (map (reserved_bit reserved) (range_with_len (64 * index) 64)) k false) 1 0
unfolding reserved_bits
reserved_bits_are reserved index k = bit_mask_l (map (reserved_bit reserved) (range_with_len (64 * index) 64)) k

pub reserved_bits_at : (reserved : Option Geometry) (index k : ℕ) → k < 64 →
    bit_at (reserved_bits reserved index) k ≡ cond (reserved_bit reserved (64 * index + k)) 1 0
reserved_bits_at reserved index k h =
    reserved_bits_are reserved index k
    ∙ ap (λ b. cond b 1 0) (get_or-map-range_with_len (reserved_bit reserved) (64 * index) 64 k (64 * index + k) false h refl)

reserved_bits_above : (reserved : Option Geometry) (index k : ℕ) → 64 ≤ k → bit_at (reserved_bits reserved index) k ≡ 0
reserved_bits_above reserved index k h = search (arith, reserved_bits_are, get_or_past)

-- a word with these bits is the one
pub reserved_from_bits : (reserved : Option Geometry) (index w : ℕ) →
    ((k : ℕ) → k < 64 → bit_at w k ≡ cond (reserved_bit reserved (64 * index + k)) 1 0) →
    ((k : ℕ) → 64 ≤ k → bit_at w k ≡ 0) → w ≡ reserved_bits reserved index
reserved_from_bits reserved index w low high = same_from_bits w (reserved_bits reserved index) (λ k. elim (cases_lt k 64) [
  | inl under ↦ low k under ∙ sym (reserved_bits_at reserved index k under)
  | inr above ↦ high k above ∙ sym (reserved_bits_above reserved index k above)
])

-- where no geometry is known, each word is 0
pub no_reserved_bits : (index : ℕ) → reserved_bits None index ≡ 0
no_reserved_bits index = sym (reserved_from_bits None index 0 (λ k h. bit_at-zero k) (λ k h. bit_at-zero k))

pub zero_words : (from n : ℕ) → reserved_words None from n ≡ replicate n 0
zero_words from zero = refl
zero_words from (suc n) = grind (arith, no_reserved_bits, zero_words (from + 1) n)

zeros_where : (reserved : Option Geometry) (from n : ℕ) → ((k : ℕ) → k < n → reserved_bits reserved (from + k) ≡ 0) →
    reserved_words reserved from n ≡ replicate n 0
zeros_where reserved from n zeros =
    grind (arith, same_lists, length-map-range_with_len, length-replicate, get_or-map-range_with_len, get_or-replicate)

reserved_split : (reserved : Option Geometry) (a n m t : ℕ) → t ≡ n + m →
    reserved_words reserved a n ++ reserved_words reserved (a + n) m ≡ reserved_words reserved a t
reserved_split reserved a zero m t e = let same : t ≡ m = omega (arith, e) in rw (add-zero a, same) refl
reserved_split reserved a (suc n) m zero e = absurd (omega (arith, e))
reserved_split reserved a (suc n) m (suc t) e =
    let place : a + suc n ≡ a + 1 + n = omega arith in
    rw place (ap (λ ws. reserved_bits reserved a ∷ ws) (reserved_split reserved (a + 1) n m t (omega (arith, e))))

-- words after others
pub reserved_on : (reserved : Option Geometry) (xs : List ℕ) (a n m t b : ℕ) → t ≡ n + m → b ≡ a + n →
    (xs ++ reserved_words reserved a n) ++ reserved_words reserved b m ≡ xs ++ reserved_words reserved a t
reserved_on reserved xs a n m t b e at = grind (arith, append_assoc, reserved_split)

abbrev words : List ℕ → Ptr → ℕ → Words
words list address room = record { list = list; address = address; room = room }

-- so many words, of which these are touched
abbrev pub seen : Vec ℕ Global → Option Geometry → ℕ → Words
seen touched reserved count =
    words (touched.items ++ reserved_words reserved (vec_len touched) (count - vec_len touched)) (vec_ptr touched)
    (vec_capacity touched)

pub length_seen : (touched : Vec ℕ Global) (reserved : Option Geometry) (count : ℕ) (w : Words) →
    seen touched reserved count ≡ w → vec_len touched ≤ count → length w.list ≡ count
length_seen touched reserved count w is within = grind (arith, length-append, length-map-range_with_len)

-- more of the words are touched, and they are the same
pub same_seen : (old new : Vec ℕ Global) (reserved : Option Geometry) (index count : ℕ) (w : Words) →
    seen old reserved count ≡ w → TouchesWords old new reserved count index → seen new reserved count ≡ w
same_seen old new reserved index count w is touches = grind (arith, reserved_on)

pub same_stored : (old new : Stored) (index : ℕ) (w : Words) → seen old.touched old.reserved old.count ≡ w →
    TouchesStored old new index → seen new.touched new.reserved new.count ≡ w
same_stored old new index w is touches =
    ap (λ r. seen new.touched r new.count) touches.reserved ∙ ap (seen new.touched old.reserved) touches.count
    ∙ same_seen old.touched new.touched old.reserved index old.count w is touches.words

-- the word at a touched index is set
pub set_seen : (touched : Vec ℕ Global) (reserved : Option Geometry) (index word count : ℕ) (w : Words) →
    seen touched reserved count ≡ w → index < vec_len touched → seen (with_item touched index word) reserved count
    ≡ words (slice_set w.list index word) w.address w.room
set_seen touched reserved index word count w is inside = grind (arith, set-append_left)

-- a touched word
pub touched_at : (touched : Vec ℕ Global) (reserved : Option Geometry) (index count : ℕ) (w : Words) (d : ℕ) →
    seen touched reserved count ≡ w → index < vec_len touched → get_or w.list index 0 ≡ get_or touched.items index d
touched_at touched reserved index count w d is inside = grind (arith, get_or-append, get_or_default)

-- a word that isn't touched
pub untouched_at : (touched : Vec ℕ Global) (reserved : Option Geometry) (index count : ℕ) (w : Words) →
    seen touched reserved count ≡ w → vec_len touched ≤ index → index < count →
    get_or w.list index 0 ≡ reserved_bits reserved index
untouched_at touched reserved index count w is past inside =
    grind (arith, get_or-append_right, get_or-map-range_with_len)

-- none of the fragments of some words is reserved
pub zeros_of_stretch : (g : Geometry) (from to n : ℕ) → n ≡ to - from →
    ((f : ℕ) → 64 * from ≤ f → f < 64 * to → is_reserved g.layout f ≡ false) →
    reserved_words (Some g) from n ≡ replicate n 0
zeros_of_stretch g from to n is none = zeros_where (Some g) from n (λ k low.
    sym (reserved_from_bits (Some g) (from + k) 0
    (λ b h. bit_at-zero b ∙ ap (λ x. cond x 1 0) (sym (none (64 * (from + k) + b) (omega arith) (omega (arith, low, is, h)))))
    (λ b h. bit_at-zero b)))

-- the reserved fragments become known
pub lays : (touched : Vec ℕ Global) (reserved : Option Geometry) (count : ℕ) (w : Words) (g : Geometry) →
    seen touched reserved count ≡ w → vec_len touched ≤ count → vec_len touched ≡ 0 → is_some reserved ≡ false →
    LaysReserved w (seen touched (Some g) count) g true
lays touched (Some h) count w g is within fresh unknown = absurd (true≢false unknown)
lays touched None count w g is within fresh unknown =
    let long = length_seen touched None count w is within in
    let none : touched.items ≡ [] = empty_is touched.items (omega (arith, fresh)) in
    record {
      zeros = λ _. all_zeros none long;
      bits = λ _. now_laid none long;
      unchanged = λ no. absurd (true≢false no);
    }
  where
    empty_is : {A : Type 0} (xs : List A) → length xs ≡ 0 → xs ≡ []
    empty_is [] e = refl
    empty_is (x ∷ xs) e = absurd (omega (arith, e))

    all_zeros : touched.items ≡ [] → length w.list ≡ count → w.list ≡ replicate (length w.list) 0
    all_zeros none long = rw long
        (ap (λ x. x.list) (sym is) ∙ ap (λ xs. xs ++ reserved_words None (vec_len touched) (count - vec_len touched)) none
        ∙ zero_words (vec_len touched) (count - vec_len touched)
        ∙ ap (λ n. replicate n 0) (omega (arith, fresh)))

    now_laid : touched.items ≡ [] → length w.list ≡ count →
        seen touched (Some g) count ≡ record w { list = reserved_words (Some g) 0 (length w.list) }
    now_laid none long =
        ap (λ list. words list (vec_ptr touched) (vec_capacity touched))
        (ap (λ xs. xs ++ reserved_words (Some g) (vec_len touched) (count - vec_len touched)) none
        ∙ ap (λ n. reserved_words (Some g) n (count - n)) fresh ∙ ap (reserved_words (Some g) 0) (omega (arith, long)))
        ∙ ap (λ x. words (reserved_words (Some g) 0 (length w.list)) x.address x.room) is

-- so many more words are touched, with the bits that they had
pub touched_page : (old new : Vec ℕ Global) (reserved : Option Geometry) (count index end : ℕ) (more : List ℕ) →
    TouchesTo old new more → more ≡ reserved_words reserved (vec_len old) (end - vec_len old) → vec_len old ≤ index →
    index < end → end ≤ count → TouchesWords old new reserved count index
touched_page old new reserved count index end more touches is past inside within =
    grind (arith, length-append, length-map-range_with_len)
