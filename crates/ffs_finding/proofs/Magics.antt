-- The magic number of a superblock, in a window on an image.
use Rattle.std.proofs.Common.{◌≡◌, ℕ, ◌+◌, ◌*◌, ◌≤◌, ◌==◌, ◌||◌, ◌∙◌, Bool, true, false, List, length}
use Rattle.std.proofs.Common.{Some, None, Err, take, drop, is_some, arith, refl, sym, ap, ap₂}
use Rattle.std.{proofs.lemmas.List.get_or-take, specs.Prelude.if◌then◌else◌}
use Rattle.ffs_volume.specs.declared.{Order.{Order, TheVariants.{Little, Big}}, constants.TheConstants.FS_MAGIC}
use Rattle.ffs_volume.specs.Disk.{Numbers.{number, u32_at, piece}, Superblock.order_of, Outcome.outcome}
use Rattle.ffs_volume.{specs.declared.SuperFault.TheVariants.Magic, proofs.OutcomeLaws.outcome_magic}
use Rattle.ffs_workspace.proofs.TablePlaces.{piece_of}
use Rattle.ffs_finding.specs.Copies.{has_magic}

-- a number of four bytes is that of the first four
pub number_of_four : (order : Order) (xs : List ℕ) → number order 4 (take 4 xs) ≡ number order 4 xs
unfolding number
number_of_four Little xs = grind (arith, get_or-take)
number_of_four Big xs = grind (arith, get_or-take)

-- a number of four bytes in a piece of an image, by the place where it is in the image
pub number_in : (order : Order) (place n at : ℕ) (b : List ℕ) → at + 4 ≤ n →
    u32_at order at (piece place n b) ≡ number order 4 (piece (place + at) 4 b)
unfolding u32_at
number_in order place n at b h =
    sym (number_of_four order (drop at (piece place n b))) ∙ ap (number order 4) (piece_of place n at 4 b h)

either : (x y : Bool) (p q : Order) →
    is_some (if x then Some p else (if y then Some q else None)) ≡ (x || y)
either true y p q = refl
either false true p q = refl
either false false p q = refl

magic_at : (b : List ℕ) → is_some (order_of b) ≡ (u32_at Little 1372 b == FS_MAGIC || u32_at Big 1372 b == FS_MAGIC)
unfolding order_of
magic_at b = either (u32_at Little 1372 b == FS_MAGIC) (u32_at Big 1372 b == FS_MAGIC) Little Big

-- a window shows whether a magic number is there
pub magic_there : (b xs : List ℕ) (sector place n at : ℕ) → xs ≡ piece place n b → place + at ≡ sector * 512 + 1372 →
    at + 4 ≤ n →
    (u32_at Little at xs == FS_MAGIC || u32_at Big at xs == FS_MAGIC) ≡ has_magic b sector
magic_there b xs sector place n at is there inside =
    let little : u32_at Little at xs ≡ u32_at Little 1372 (piece (sector * 512) 1376 b) =
    ap (u32_at Little at) is ∙ number_in Little place n at b inside
    ∙ ap (λ (k : ℕ). number Little 4 (piece k 4 b)) there
    ∙ sym (number_in Little (sector * 512) 1376 1372 b (omega arith)) in
    let big : u32_at Big at xs ≡ u32_at Big 1372 (piece (sector * 512) 1376 b) =
    ap (u32_at Big at) is ∙ number_in Big place n at b inside
    ∙ ap (λ (k : ℕ). number Big 4 (piece k 4 b)) there ∙ sym (number_in Big (sector * 512) 1376 1372 b (omega arith)) in
    ap₂ (λ (k m : ℕ). (k == FS_MAGIC || m == FS_MAGIC)) little big ∙ sym (magic_at (piece (sector * 512) 1376 b))

-- where none is there, no superblock is accepted
pub no_magic : (b : List ℕ) (sector : ℕ) → sector * 512 + 1376 ≤ length b → has_magic b sector ≡ false →
    outcome b (Some sector) ≡ Err Magic
no_magic b sector inside none = grind (arith, outcome_magic)
