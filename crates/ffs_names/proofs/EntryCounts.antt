-- Laws of the reads that are still to come of a reading of entries.
use Rattle.std.proofs.Common.{◌≡◌, ◌≤◌, ◌||◌, nat_lt, if◌then◌else◌, ℕ, Bool, true, false, List, Result, arith, refl}
use Rattle.std.proofs.lemmas.Bool.{Decides.nat_tests, false≢true, ltb-false, or_parts}
use Rattle.ffs_image.specs.declared.image.ImageFault.{ImageFault}
use Rattle.ffs_volume.proofs.Results.{on_any, on_ok}
use Rattle.ffs_walk.specs.declared.{blocks.Blocks.Blocks, window.Window.Window}
use Rattle.ffs_survey.specs.Costs.{TakesReads}
use Rattle.ffs_names.specs.{Costs.{HoldsReading, to_read}, declared.chunks.Chunks.Chunks}

-- the reads, and what is held, by whether the shape is right so far, and by the chunks
abbrev pub may_by : Bool → Chunks → Bool
may_by s c = s || nat_lt 0 c.chunks_left

abbrev pub reads_by : List ℕ → Bool → Chunks → ℕ
reads_by b s c = if may_by s c then to_read b c else 0

abbrev pub HoldsBy : Blocks → Window → Bool → Chunks → Type 0
HoldsBy blocks w s c = may_by s c ≡ true → HoldsReading blocks w c

part : (x : Bool) (n : ℕ) → (if x then n else 0) ≤ n
part true n = omega arith
part false n = omega arith

pub at_most : (b : List ℕ) (s : Bool) (c : Chunks) → reads_by b s c ≤ to_read b c
at_most b s c = part (may_by s c) (to_read b c)

-- a call that reads on where it may, and reads nothing where it may not
takes_where : {T : Type 0} (x y : Bool) (reads reads' n n' : ℕ) (held' : Type 0) (result : Result T ImageFault)
    → (y ≡ true → x ≡ true) → (x ≡ false → reads' ≤ reads) → (x ≡ true → TakesReads reads reads' n n' held' result)
    → TakesReads reads reads' (if x then n else 0) (if y then n' else 0) (y ≡ true → held') result
takes_where true y reads reads' n n' held' result still none took = grind (arith, on_ok, part)
takes_where false true reads reads' n n' held' result still none took = absurd (false≢true (still refl))
takes_where false false reads reads' n n' held' result still none took = grind (arith, on_any)

may_still : (s s' : Bool) (n n' : ℕ) → (s' ≡ true → s ≡ true) → n' ≤ n → (s' || nat_lt 0 n') ≡ true →
    (s || nat_lt 0 n) ≡ true
may_still true s' n n' h l e = refl
may_still false true n n' h l e = absurd (false≢true (h refl))
may_still false false n n' h l e = grind (arith, nat_tests)

-- a reading of entries continues by its chunks
pub continues_by_chunks : {T : Type 0} (b : List ℕ) (s s' : Bool) (c c' : Chunks) (blocks blocks' : Blocks) (w w' : Window)
    (reads reads' : ℕ) (result : Result T ImageFault) → (s' ≡ true → s ≡ true) → c'.chunks_left ≤ c.chunks_left
    → (c.chunks_left ≡ 0 → reads' ≤ reads)
    → (HoldsReading blocks w c → TakesReads reads reads' (to_read b c) (to_read b c') (HoldsReading blocks' w' c') result)
    → HoldsBy blocks w s c → TakesReads reads reads' (reads_by b s c) (reads_by b s' c') (HoldsBy blocks' w' s' c') result
continues_by_chunks b s s' c c' blocks blocks' w w' reads reads' result still less none took held =
    takes_where (may_by s c) (may_by s' c') reads reads' (to_read b c) (to_read b c') (HoldsReading blocks' w' c') result
    (may_still s s' c.chunks_left c'.chunks_left still less) (λ e. none (grind (arith, ltb-false, or_parts))) (λ e. took (held e))

-- so does a look for holes, of a directory whose shape is right so far
pub looks_on : {T : Type 0} (b : List ℕ) (s : Bool) (c c' : Chunks) (blocks blocks' : Blocks) (w w' : Window)
    (reads reads' : ℕ) (result : Result T ImageFault) → s ≡ true
    → (HoldsReading blocks w c → TakesReads reads reads' (to_read b c) (to_read b c') (HoldsReading blocks' w' c') result)
    → HoldsBy blocks w s c → TakesReads reads reads' (reads_by b s c) (reads_by b s c') (HoldsBy blocks' w' s c') result
looks_on b s c c' blocks blocks' w w' reads reads' result right took held = grind arith
