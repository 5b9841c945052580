-- The inodes one after another.
use Rattle.std.proofs.Common.{◌≡◌, ℕ, zero, suc, ◌+◌, ◌-◌, ◌<◌, ◌≤◌, true, false, ◌||◌, if◌then◌else◌, nat_lt, List}
use Rattle.std.proofs.Common.{◌++◌, length, get_or, replicate, min, slice_index, slice_set, arith, refl, ap, ◌∙◌, sym}
use Rattle.std.proofs.lemmas.{Bool.Decides.nat_tests, List.{get_or-set_same, get_or-set_other, set-get_or}}
use Rattle.ffs_volume.specs.Blocks.{BlockCheck.{owner_lines, lines_of_owners}, Claims.{Claims, no_claims, after_owner}}
use Rattle.ffs_volume.specs.Blocks.{Claims.{has_blame, all_claims, is_set}, Inodes.{inode_of, class_of}}
use Rattle.ffs_volume.specs.Blocks.{Inodes.{is_unknown, inodes_of}, KeptSteps.claims_before, Owners.owner_of}
use Rattle.ffs_volume.specs.{Blocks.Owners.owners_of, Directories.Volumes.{is_inode_number, marked_by_phase1_at}}
use Rattle.ffs_volume.specs.{Encodings.{Kinds.kind_at, Links.start_at, Replay.cut_of}, declared.Class.TheVariants.Free}
use Rattle.ffs_volume.specs.{declared.{Inode.Inode, Layout.Layout}, Encodings.Notes.{note_of, note_at}}
use Rattle.ffs_workspace.specs.{Holds.{bool_at, claims_of, IsFresh, HoldsPhase1}, Lengths.IsFor}
use Rattle.ffs_workspace.specs.declared.workspace.Workspace.{Workspace}
use Rattle.ffs_claims.{proofs.StepsContinue.{lines_append}, specs.{Leaves.{SameFound, Stored}, Phases.Phase1FoundInPart}}
use Rattle.ffs_claims.specs.Lines.{of_lines, owners_from}

pub before_first : (v : Layout) (bytes : List ℕ) → claims_before v bytes 2 ≡ no_claims v
unfolding claims_before
before_first v bytes = refl

-- and after the last one
pub before_end : (v : Layout) (bytes : List ℕ) (x : ℕ) → inodes_of v ≤ x → (2 < x → x ≤ inodes_of v) → 2 ≤ x →
    claims_before v bytes x ≡ all_claims v bytes
unfolding claims_before all_claims owners_of
before_end v bytes x past exact low = grind arith

-- the numbers from 2 on that are gone over
pub numbers_most : (n most : ℕ) → (2 < n → n ≤ most) → n - 2 ≤ most
numbers_most n most high = grind arith

-- the lines of the next inode, and of those after it
pub lines_next : (v : Layout) (bytes : List ℕ) (s s' : Claims) (x : ℕ) → x < inodes_of v →
    s' ≡ after_owner v s (owner_of v bytes x) →
    of_lines (lines_of_owners v s (owners_from v bytes x)) ≡ of_lines (owner_lines v s (owner_of v bytes x))
    ++ of_lines (lines_of_owners v s' (owners_from v bytes (x + 1)))
lines_next v bytes s s' x low now = grind (arith, lines_append)

-- ---- lists that are filled up to a number
abbrev FilledTo : {A : Type 0} → A → (ℕ → A) → List A → ℕ → Type 0
FilledTo d f xs n = (x : ℕ) → get_or xs x d ≡ (if nat_lt x n then f x else d)

filled_next : {A : Type 0} (d : A) (f : ℕ → A) (xs xs' : List A) (n : ℕ) (value : A) → n < length xs →
    xs' ≡ slice_set xs n value → value ≡ f n → FilledTo d f xs n → FilledTo d f xs' (n + 1)
filled_next d f xs xs' n value low now is before = grind (arith, nat_tests, get_or-set_same, get_or-set_other)

-- where nothing is to be set at the next number, the list is filled up to it
filled_still : {A : Type 0} (d : A) (f : ℕ → A) (xs : List A) (n : ℕ) → FilledTo d f xs n → xs ≡ slice_set xs n d
filled_still d f xs n before =
    let none : get_or xs n d ≡ d = let here = before n in grind (arith, nat_tests) in
    sym (ap (slice_set xs n) (sym none) ∙ set-get_or xs n d)

-- nothing is found of a number that is no inode's
abbrev NoneOutside : {A : Type 0} → Layout → A → (ℕ → A) → Type 0
NoneOutside v d f = (x : ℕ) → is_inode_number v x ≡ false → f x ≡ d

filled_begin : {A : Type 0} (v : Layout) (d : A) (f : ℕ → A) (xs : List A) (len : ℕ) → xs ≡ replicate len d →
    NoneOutside v d f → FilledTo d f xs 2
filled_begin v d f xs len e out = λ x. rw e (clear len x ∙ first x (out x))
  where
    clear : (n x : ℕ) → get_or (replicate n d) x d ≡ d
    clear zero x = refl
    clear (suc n) zero = refl
    clear (suc n) (suc x) = clear n x

    first : (x : ℕ) → (is_inode_number v x ≡ false → f x ≡ d) → d ≡ (if nat_lt x 2 then f x else d)
    first x none = grind (arith, nat_tests)

pub is_inside : (v : Layout) (x : ℕ) → 2 ≤ x → x < inodes_of v → is_inode_number v x ≡ true
is_inside v x low high = grind (arith, nat_tests)

note_out : (v : Layout) (bytes : List ℕ) → NoneOutside v 0 (note_at v bytes)
unfolding note_at
note_out v bytes x out = rw out (grind arith)

-- ---- what is found of the inodes below a number
pub record FoundTo (v : Layout) (bytes : List ℕ) (w : Workspace) (n : ℕ) : Type 0 where
  kinds : FilledTo 0 (kind_at v bytes) w.kinds.items n
  marked : FilledTo false (marked_by_phase1_at v bytes) w.marked.items n
  notes : FilledTo 0 (note_at v bytes) w.notes.items n
  starts : FilledTo 0 (start_at v bytes) w.references.items n

pub found_begins : {v : Layout} {u w : Workspace} (bytes : List ℕ) → IsFresh v u → SameFound u w → FoundTo v bytes w 2
unfolding kind_at marked_by_phase1_at start_at
found_begins {v = v} bytes fresh same = record {
  kinds = filled_begin v 0 (kind_at v bytes) _ _ (ap (λ (x : Workspace). x.kinds.items) same.only ∙ fresh.kinds) (λ x out. rw out refl);
  marked = filled_begin v false (marked_by_phase1_at v bytes) _ _ (ap (λ (x : Workspace). x.marked.items) same.only ∙ fresh.marked)
      (λ x out. rw out refl);
  notes = filled_begin v 0 (note_at v bytes) _ _ (ap (λ (x : Workspace). x.notes.items) same.only ∙ fresh.notes) (note_out v bytes);
  starts = filled_begin v 0 (start_at v bytes) _ _ (ap (λ (x : Workspace). x.references.items) same.only ∙ fresh.references)
      (λ x out. rw out refl);
}

pub found_next : {v : Layout} {bytes : List ℕ} {u w : Workspace} {n : ℕ} → 2 ≤ n → n < inodes_of v → IsFor v u →
    claims_of w ≡ after_owner v (claims_before v bytes n) (owner_of v bytes n) →
    Stored n (class_of v (inode_of v bytes n)) (inode_of v bytes n) u w → FoundTo v bytes u n →
    FoundTo v bytes w (n + 1)
unfolding kind_at marked_by_phase1_at note_at start_at
found_next {v = v} {bytes = bytes} {u = u} {w = w} {n = n} low high m now stored before =
    let inside = is_inside v n low high in
    record {
      kinds = filled_next 0 (kind_at v bytes) u.kinds.items _ n _ (omega (arith, m.kinds)) stored.kinds (rw inside refl)
          before.kinds;
      marked = filled_next false (marked_by_phase1_at v bytes) u.marked.items _ n _ (omega (arith, m.marked))
          stored.marked (ap (λ t. is_unknown (class_of v (inode_of v bytes n)) || has_blame t) now
          ∙ rw inside refl) before.marked;
      notes = filled_next 0 (note_at v bytes) u.notes.items _ n _ (omega (arith, m.notes)) stored.notes
          (ap (λ t. note_of (class_of v (inode_of v bytes n)) (inode_of v bytes n) (min (cut_of t) 4294967295)) now
          ∙ rw inside refl) before.notes;
      starts = filled_next 0 (start_at v bytes) u.references.items _ n _ (omega (arith, m.references)) stored.starts
          (rw inside refl) before.starts;
    }

-- where claims end early, what was found before stays
pub found_cut : {v : Layout} {bytes : List ℕ} {u w : Workspace} {n : ℕ} → SameFound u w →
    claims_of u ≡ claims_before v bytes n → FoundTo v bytes u n → Phase1FoundInPart v bytes w
found_cut {n = n} same claims found = record {
  number = n;
  kinds = λ x. ap (λ (w : Workspace). slice_index w.kinds.items x) same.only ∙ found.kinds x;
  marked = λ x. ap (λ (w : Workspace). bool_at w.marked.items x) same.only ∙ found.marked x;
  notes = λ x. ap (λ (w : Workspace). slice_index w.notes.items x) same.only ∙ found.notes x;
  starts = λ x. ap (λ (w : Workspace). slice_index w.references.items x) same.only ∙ found.starts x;
  used = record { flags = λ f h. same.used.flags f (ap (λ s. is_set s.used f) claims ∙ h) };
  duplicates = record { flags = λ f h. same.duplicates.flags f (ap (λ s. is_set s.duplicates f) claims ∙ h) };
}

-- a free inode leaves what is found of it as it begins
pub stored_free : {v : Layout} {bytes : List ℕ} {u : Workspace} {n : ℕ} (i : Inode) → FoundTo v bytes u n →
    Stored n Free i u (record u { bad = 0; dup_offers = 0; kept = 0; tail = false })
stored_free {u = u} {n = n} i before = search (arith, filled_still)

pub found_all : {v : Layout} {bytes : List ℕ} {w : Workspace} {n : ℕ} → inodes_of v ≤ n →
    claims_of w ≡ all_claims v bytes → FoundTo v bytes w n → HoldsPhase1 v bytes (record w { surveyed = false })
unfolding kind_at marked_by_phase1_at start_at
found_all {v = v} {bytes = bytes} {n = n} past all found = grind (arith, note_out)
