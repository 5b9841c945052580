-- The name of the first plain entry that names an inode, and lists that note no place.
use Rattle.std.proofs.Common.{◌≡◌, ℕ, zero, suc, ◌+◌, ◌*◌, ◌/◌, ◌%◌, ◌^◌, ◌<◌, arith, bit_or, Bool, true, false, List}
use Rattle.std.{proofs.Common.{[], ◌∷◌, ◌++◌, refl, ap, ◌∙◌}, specs.Prelude.{cond, replicate, slice_index}}
use Rattle.std.{specs.{List.list_any, Int.Bits.{bit_and, or_add_and}}, proofs.lemmas.Nat.Bits.and_pow}
use Rattle.ffs_volume.specs.{declared.Layout.Layout, Directories.{Entries.Entry, Graph.is_naming_entry}}
use Rattle.ffs_volume.specs.{Directories.Roles.{RoledEntry, is_plain, role_of, roled_from}, Encodings.Places.AreParts}
use Rattle.ffs_volume.specs.Encodings.Places.{name_in}

-- one entry: its name, or that of the first one after it
pub name_in-cons : (x : ℕ) (e : RoledEntry) (es : List RoledEntry) →
    name_in x (e ∷ es) ≡ cond (is_naming_entry x e) e.entry.name (name_in x es)
name_in-cons x e es = grind arith

-- where none of some entries names it, the name is that of the first one after them
pub name_in-after : (x : ℕ) (es fs : List RoledEntry) → list_any (is_naming_entry x) es ≡ false →
    name_in x (es ++ fs) ≡ name_in x fs
name_in-after x [] fs h = refl
name_in-after x (e ∷ es) fs h = let rest = name_in-after x es fs in grind (arith, name_in-cons)

-- where one of them names it, it is that of the first of them
pub name_in-among : (x : ℕ) (es fs : List RoledEntry) → list_any (is_naming_entry x) es ≡ true →
    name_in x (es ++ fs) ≡ name_in x es
name_in-among x [] fs h = absurd (cc)
name_in-among x (e ∷ es) fs h = let rest = name_in-among x es fs in grind (arith, name_in-cons)

-- whether an entry is plain depends neither on its index nor on whether its chunk is at the start
-- of the file
pub plain_alike : (first later : Bool) (i j : ℕ) (e : Entry) → is_plain (role_of first i e) ≡ is_plain (role_of later j e)
unfolding role_of
plain_alike first later i j e = grind arith

-- so neither the name depends on them, nor whether there is one
pub name_in-roled : (x : ℕ) (first later : Bool) (i j : ℕ) (es : List Entry) →
    name_in x (roled_from first i es) ≡ name_in x (roled_from later j es)
unfolding roled_from
name_in-roled x first later i j [] = refl
name_in-roled x first later i j (e ∷ es) =
    let rest = name_in-roled x first later (suc i) (suc j) es in
    let plain = plain_alike first later i j e in
    grind (arith, name_in-cons)

pub any_naming-roled : (x : ℕ) (first later : Bool) (i j : ℕ) (es : List Entry) →
    list_any (is_naming_entry x) (roled_from first i es) ≡ list_any (is_naming_entry x) (roled_from later j es)
unfolding roled_from
any_naming-roled x first later i j [] = refl
any_naming-roled x first later i j (e ∷ es) =
    rw (plain_alike first later i j e, any_naming-roled x first later (suc i) (suc j) es) refl

-- the top bit of a word of 32 bits is set
pub or_due : (word : ℕ) → word < 2 ^ 32 → bit_or word 2147483648 ≡ word % 2147483648 + 2147483648
or_due word h =
    let parts = or_add_and word 2147483648 in
    let top : bit_and word 2147483648 ≡ word / 2147483648 % 2 * 2147483648 = and_pow word 31 in
    omega arith

-- words that are all 0 note no place
pub none_noted : (v : Layout) (b words : List ℕ) → ((x : ℕ) → slice_index words x ≡ 0) → AreParts v b words
none_noted v b words nothing x p k there is = grind arith

-- a list of zeros
pub zero_index : (n x : ℕ) → slice_index (replicate n 0) x ≡ 0
zero_index zero x = refl
zero_index (suc n) zero = refl
zero_index (suc n) (suc x) = zero_index n x

pub filled_noted : (v : Layout) (b words : List ℕ) (n : ℕ) → words ≡ replicate n 0 → AreParts v b words
filled_noted v b words n e = none_noted v b words (λ x. ap (λ ws. slice_index ws x) e ∙ zero_index n x)
