-- Kept offers are a prefix of the offers.
use Rattle.std.proofs.{lemmas.Bool.Decides.nat_tests, Common.{arith, inl, inr, ◌≡◌, ℕ, ◌+◌, Bool, true, false, refl}}
use Rattle.std.proofs.Common.{List, [], ◌∷◌, ◌++◌, append_assoc, append-nil, nat_lt, ◌==◌, not, if◌then◌else◌, map}
use Rattle.std.{proofs.lemmas.{Bool.{cases_Bool, not-true}, List.map-append}, specs.List.range_with_len}
use Rattle.ffs_volume.specs.Blocks.Claims.{Claims, is_open, after_offer, after_offers, after_run, after_step}
use Rattle.ffs_volume.specs.Blocks.{Claims.after_steps, KeptOffers.{Offer, kept_in_offers, kept_in_run, kept_in_step}}
use Rattle.ffs_volume.specs.Blocks.{KeptOffers.{kept_in_steps, offer_of}, Owners.{fragments_of, step_fragments}}
use Rattle.ffs_volume.specs.{Disk.Areas.is_run_in_range, Laws.Meanings.KeptPrefix, declared.{Layout.Layout, Step.Step}}
use Rattle.ffs_volume.specs.declared.Step.TheVariants.{Run, Tail, Gap}

-- where eleven offers were dup, no offer is kept or claims anything
pub full_offers : (v : Layout) (i : ℕ) (s : Claims) (fs : List ℕ) → nat_lt s.dup_offers 11 ≡ false →
    (kept_in_offers v i s fs ≡ []) × (after_offers v s fs ≡ s)
full_offers v i s [] q = (refl, refl)
full_offers v i s (f ∷ fs) q = rw q (full_offers v i s fs q)

-- after the cut nothing changes, and nothing is kept
pub shut_steps : (v : Layout) (i : ℕ) (s : Claims) (steps : List Step) → is_open s ≡ false →
    (kept_in_steps v i s steps ≡ []) × (after_steps v s steps ≡ s)
shut_steps v i s [] q = (refl, refl)
shut_steps v i s (Run start len block ∷ steps) q = rw q (shut_steps v i s steps q)
shut_steps v i s (Tail ∷ steps) q = rw q (shut_steps v i s steps q)
shut_steps v i s (Gap ∷ steps) q = shut_steps v i s steps q

-- one part after the other: where the first is cut, nothing is kept of the second
prefix_then : {i : ℕ} {k k' : List Offer} {fs fs' : List ℕ} {b b' : Bool} → KeptPrefix i k fs b →
    KeptPrefix i k' fs' b' → (b ≡ true → (k' ≡ []) × (b' ≡ true)) → KeptPrefix i (k ++ k') (fs ++ fs') b'
prefix_then {i = i} {k = k} {k' = k'} {fs = fs} {fs' = fs'} f g shut = elim f.end [
  | inl none ↦
      let both = map-append (offer_of i) fs fs' in
      record { rest = g.rest; parts = cc (append_assoc k k' g.rest, append-nil k, f.parts, g.parts, none); end = g.end }
  | inr over ↦ record {
    rest = f.rest ++ map (offer_of i) fs';
    parts = grind (arith, append_assoc, map-append);
    end = inr (shut over).1;
  }
]

offer_first : (v : Layout) (i : ℕ) (s : Claims) (f : ℕ) →
    KeptPrefix i (if nat_lt s.dup_offers 11 then offer_of i f ∷ [] else []) (f ∷ [])
    (not (nat_lt (after_offer v s f).dup_offers 11))
offer_first v i s f = elim (cases_Bool (nat_lt s.dup_offers 11)) [
  | inl q ↦ record { rest = []; parts = rw q; end = inl refl }
  | inr q ↦ record { rest = offer_of i f ∷ []; parts = rw q; end = grind arith }
]

offers_first : (v : Layout) (i : ℕ) (s : Claims) (fs : List ℕ) →
    KeptPrefix i (kept_in_offers v i s fs) fs (not (nat_lt (after_offers v s fs).dup_offers 11))
offers_first v i s [] = record { rest = []; parts = refl; end = inl refl }
offers_first v i s (f ∷ fs) = prefix_then (offer_first v i s f) (offers_first v i (after_offer v s f) fs)
    (λ over. let full = full_offers v i (after_offer v s f) fs (not-true _ over) in (full.0, rw full.1 over))

-- an inode whose eleventh dup offer was seen is cut
cut_then : {i : ℕ} {kept : List Offer} {fs : List ℕ} (s : Claims) →
    KeptPrefix i kept fs (not (nat_lt s.dup_offers 11)) →
    KeptPrefix i kept fs (not (is_open s))
cut_then s f = grind arith

run_first : (v : Layout) (i : ℕ) (s : Claims) (start len : ℕ) →
    KeptPrefix i (kept_in_run v i s start len) (range_with_len start len) (not (is_open (after_run v s start len)))
run_first v i s start len =
    let fs = range_with_len start len in
    let seen : Claims = record s { runs = s.runs + 1 } in
    let bad : Claims = record s { runs = s.runs + 1; bad = s.bad + 1 } in
    elim (cases_Bool (is_run_in_range v start len)) [
      | inl r ↦ rw r (cut_then (after_offers v seen fs) (offers_first v i seen fs))
      | inr r ↦ elim (cases_Bool (s.bad == 10)) [
        | inl z ↦ rw (r, z) (record { rest = map (offer_of i) fs; parts = refl; end = grind (arith, nat_tests) })
        | inr z ↦ rw (r, z) (cut_then (after_offers v bad fs) (offers_first v i bad fs))
      ]
    ]

step_first : (v : Layout) (i : ℕ) (s : Claims) (step : Step) →
    KeptPrefix i (kept_in_step v i s step) (step_fragments step) (not (is_open (after_step v s step)))
step_first v i s Tail = record { rest = []; parts = refl; end = inl refl }
step_first v i s Gap = record { rest = []; parts = refl; end = inl refl }
step_first v i s (Run start len block) = elim (cases_Bool (is_open s)) [
  | inl q ↦ rw q (run_first v i s start len)
  | inr q ↦ rw q (record { rest = map (offer_of i) (range_with_len start len); parts = refl; end = inr (rw q) })
]

pub steps_first : (v : Layout) (i : ℕ) (s : Claims) (steps : List Step) →
    KeptPrefix i (kept_in_steps v i s steps) (fragments_of steps) (not (is_open (after_steps v s steps)))
steps_first v i s [] = record { rest = []; parts = refl; end = inl refl }
steps_first v i s (step ∷ steps) = prefix_then (step_first v i s step) (steps_first v i (after_step v s step) steps)
    (λ over. let shut = shut_steps v i (after_step v s step) steps (not-true _ over) in (shut.0, rw shut.1 over))
