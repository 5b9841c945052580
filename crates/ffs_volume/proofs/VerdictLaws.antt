-- By a verdict on an entry, and by what is wrong with a directory, there is a message just where they
-- aren't silent.
use Rattle.std.proofs.Common.{◌≡◌, ◌≤◌, ◌==◌, ℕ, Bool, true, false, nat_lt, refl, ap, List, [], arith, length}
use Rattle.std.proofs.{Common.{length-append, inl, inr}, lemmas.Bool.{Decides.nat_tests, cases_Bool}}
use Rattle.ffs_volume.specs.declared.{Attr.Attr, verdict.Verdict.{Verdict, TheVariants.{Named, Whiteout}}}
use Rattle.ffs_volume.specs.{Blocks.Inodes.is_allocated, Directories.{Entries.Entry, Roles.Volume}}
use Rattle.ffs_volume.specs.Directories.PathnameCheck.{has_wrong_type, is_bad_whiteout, is_extraneous}
use Rattle.ffs_volume.specs.Directories.PathnameCheck.{is_first_of_suspect, verdict_on, verdict_lines, is_silent}
use Rattle.ffs_volume.specs.Directories.PathnameCheck.{header_lines, dot_lines, dotdot_lines, is_header_silent}
use Rattle.ffs_volume.specs.{Directories.PathnameCheck.is_dot_silent, declared.verdict.HeaderDefects.HeaderDefects}
use Rattle.ffs_volume.specs.declared.verdict.DotDefects.{DotDefects, TheVariants.Found}

-- ---- on an entry
pub silent_lines : (verdict : Verdict) (number : ℕ) (attr : Attr) (path directory : List ℕ) →
    is_silent verdict ≡ true → verdict_lines verdict number attr path directory ≡ []
silent_lines Whiteout number attr path directory h = refl
silent_lines (Named n) number attr path directory h = grind (arith, nat_tests)
silent_lines verdict number attr path directory h = absurd (cc)

pub some_lines : (verdict : Verdict) (number : ℕ) (attr : Attr) (path directory : List ℕ) →
    is_silent verdict ≡ false → 1 ≤ length (verdict_lines verdict number attr path directory)
some_lines Whiteout number attr path directory h = absurd (cc)
some_lines (Named n) number attr path directory h = grind (arith, nat_tests)
some_lines verdict number attr path directory h = omega arith

pub silent_from : (verdict : Verdict) (number : ℕ) (attr : Attr) (path directory : List ℕ) →
    verdict_lines verdict number attr path directory ≡ [] → is_silent verdict ≡ true
silent_from verdict number attr path directory h = grind arith

-- ---- what a silent verdict says of a plain entry
pub record IsNamedSilent (v : Volume) (first own : Bool) (e : Entry) : Type 0 where
  pub allocated : is_allocated (v.class e.number) ≡ true
  pub suspect : is_first_of_suspect v first e.number ≡ false
  pub link : is_extraneous v own e.number ≡ false
  pub right_type : has_wrong_type v e ≡ false

pub record IsPlainSilent (v : Volume) (first own : Bool) (e : Entry) : Type 0 where
  pub below : nat_lt e.number v.count ≡ true
  pub no_whiteout : is_bad_whiteout e ≡ false
  pub named : (e.number == 1) ≡ false → IsNamedSilent v first own e

pub silent_parts : (v : Volume) (first own : Bool) (e : Entry) → is_silent (verdict_on v first own e) ≡ true →
    IsPlainSilent v first own e
silent_parts v first own e h = grind arith

pub silent_of : (v : Volume) (first own : Bool) (e : Entry) → IsPlainSilent v first own e →
    is_silent (verdict_on v first own e) ≡ true
silent_of v first own e q = grind arith

-- ---- on a directory before its entries
dot_silent : (n : DotDefects (List ℕ)) (attr : Attr) (path : List ℕ) → is_dot_silent n ≡ true →
    dot_lines n attr path ≡ []
dot_silent (Found wrong_number wrong_type) attr path h = grind (arith, nat_tests)
dot_silent n attr path h = absurd (cc)

dot_some : (n : DotDefects (List ℕ)) (attr : Attr) (path : List ℕ) → is_dot_silent n ≡ false →
    1 ≤ length (dot_lines n attr path)
dot_some (Found wrong_number wrong_type) attr path h = grind (arith, nat_tests)
dot_some n attr path h = omega arith

dotdot_silent : (n : DotDefects (List ℕ)) (attr : Attr) (path : List ℕ) → is_dot_silent n ≡ true →
    dotdot_lines n attr path ≡ []
dotdot_silent (Found wrong_number wrong_type) attr path h = grind (arith, nat_tests)
dotdot_silent n attr path h = absurd (cc)

dotdot_some : (n : DotDefects (List ℕ)) (attr : Attr) (path : List ℕ) → is_dot_silent n ≡ false →
    1 ≤ length (dotdot_lines n attr path)
dotdot_some (Found wrong_number wrong_type) attr path h = grind (arith, nat_tests)
dotdot_some n attr path h = omega arith

pub header_silent : (n : HeaderDefects (List ℕ)) (attr : Attr) (path : List ℕ) → is_header_silent n ≡ true →
    header_lines n attr path ≡ []
unfolding header_lines
header_silent n attr path h = grind (arith, nat_tests, dot_silent, dotdot_silent)

pub some_header : (n : HeaderDefects (List ℕ)) (attr : Attr) (path : List ℕ) → is_header_silent n ≡ false →
    1 ≤ length (header_lines n attr path)
unfolding header_lines
some_header n attr path h = grind (arith, nat_tests, length-append, dot_some, dotdot_some)

pub header_silent_from : (n : HeaderDefects (List ℕ)) (attr : Attr) (path : List ℕ) → header_lines n attr path ≡ [] →
    is_header_silent n ≡ true
header_silent_from n attr path h = elim (cases_Bool (is_header_silent n)) [
  | inl e ↦ e
  | inr e ↦
      let some = some_header n attr path e in
      let none = ap length h in absurd (omega (arith, some, none))
]
