-- How offers, steps and inodes continue.
use Rattle.std.proofs.Common.{◌≡◌, ℕ, zero, suc, ◌+◌, ◌-◌, ◌<◌, false, ◌==◌, List, [], ◌∷◌, ◌++◌, arith, rules, refl}
use Rattle.std.proofs.{Common.{ap, replicate, ◌&&◌, not, inl, inr}, lemmas.Bool.{cases_Bool, Decides.nat_tests}}
use Rattle.std.{proofs.lemmas.List.map-append, specs.List.range_with_len}
use Rattle.ffs_volume.specs.Blocks.Claims.{Claims, is_open, after_offer, after_step, after_steps, offer_lines}
use Rattle.ffs_volume.specs.Blocks.{Claims.{lines_of_offers, step_lines, lines_of_steps, run_lines}, Steps.steps_of}
use Rattle.ffs_volume.specs.{Blocks.Steps.is_walked, Disk.Areas.is_run_in_range, Messages.Kinds.{Message, of_blocks}}
use Rattle.ffs_volume.specs.declared.{BlockMessage.BlockMessage, Inode.Inode, Layout.Layout, Step.Step}
use Rattle.ffs_volume.specs.declared.Step.TheVariants.{Gap}
use Rattle.ffs_report.proofs.{Reporting.{of_says, of_same}, Reports.{stopped_more, said_then, stopped_after}}
use Rattle.ffs_report.specs.{PhaseOutcome.SaidOf, Progress.{Progress, Said, Stopped}}
use Rattle.ffs_image.specs.Known.{ForBytes}
use Rattle.ffs_walk.specs.{Rests.steps_left, declared.walk.Walk.Walk}
use Rattle.ffs_claims.specs.Lines.{of_lines, bad_lines}

pub lines_append : (xs ys : List BlockMessage) → of_lines (xs ++ ys) ≡ of_lines xs ++ of_lines ys
lines_append xs ys = map-append of_blocks xs ys

pub range_more : (j n m : ℕ) → n ≡ m + 1 → range_with_len j n ≡ j ∷ range_with_len (j + 1) m
range_more j n m e = rw e (search rules)

pub range_next : (start len place f : ℕ) → place < len → f ≡ start + place →
    range_with_len (start + place) (len - place) ≡ f ∷ range_with_len (start + (place + 1)) (len - (place + 1))
range_next start len place f h is_place = grind (arith, range_more)

-- the next offer of a Run is reported
pub offers_more : (v : Layout) (inode : ℕ) (s s' : Claims) (start len place f : ℕ) → place < len → f ≡ start + place →
    s' ≡ after_offer v s f → of_lines (lines_of_offers v inode s (range_with_len (start + place) (len - place)))
    ≡ of_lines (offer_lines v inode s f)
    ++ of_lines (lines_of_offers v inode s' (range_with_len (start + (place + 1)) (len - (place + 1))))
offers_more v inode s s' start len place f h is_place now = grind (arith, range_next, lines_append)

-- once an inode is cut its steps change nothing, and nothing is reported of them
pub cut_over : (v : Layout) (inode : ℕ) (s : Claims) (steps : List Step) → is_open s ≡ false →
    (after_steps v s steps ≡ s) × (lines_of_steps v inode s steps ≡ [])
cut_over v inode s [] h = (refl, refl)
cut_over v inode s (Gap ∷ steps) h = cut_over v inode s steps h
cut_over v inode s (other ∷ steps) h = rw h (cut_over v inode s steps h)

-- the lines of a Run that is bad: the first ones, and those of its offers
abbrev bad_rest : Layout → ℕ → Claims → ℕ → ℕ → List BlockMessage
bad_rest v inode s start len = lines_of_offers v inode (record s { runs = s.runs + 1; bad = s.bad + 1 })
    (range_with_len start len)

further : (v : Layout) (inode : ℕ) (s : Claims) (start len : ℕ) → is_run_in_range v start len ≡ false →
    (s.bad == 10) ≡ false → run_lines v inode s start len ≡ bad_lines start inode false ++ bad_rest v inode s start len
further v inode s start len h e = rw (h, e) refl

pub run_stops : (v : Layout) (inode : ℕ) (s : Claims) (start len : ℕ) {a b : Progress} →
    is_run_in_range v start len ≡ false → Stopped a b (of_lines (bad_lines start inode (s.bad == 10))) →
    Stopped a b (of_lines (run_lines v inode s start len))
run_stops v inode s start len {a = a} {b = b} h p = elim (cases_Bool (s.bad == 10)) [
  | inl e ↦ rw (h, e) (rw e at p)
  | inr e ↦ rw (further v inode s start len h e)
      (stopped_more a b _ (of_lines (bad_rest v inode s start len)) (rw e at p))
]

-- a Run that is bad, and isn't the eleventh one: its first lines were said, and its offers then
module _ (v : Layout) (inode : ℕ) (s : Claims) (start len : ℕ) {a b c : Progress}
    (h : is_run_in_range v start len ≡ false) (few : (s.bad == 10) ≡ false)
    (p : Said a b (of_lines (bad_lines start inode (s.bad == 10)))) where
  pub run_said : Said b c (of_lines (bad_rest v inode s start len)) →
      Said a c (of_lines (run_lines v inode s start len))
  run_said q = rw (further v inode s start len h few) (said_then _ _ _ _ _ (rw few at p) q)

  pub run_stops_later : Stopped b c (of_lines (bad_rest v inode s start len)) →
      Stopped a c (of_lines (run_lines v inode s start len))
  run_stops_later q = rw (further v inode s start len h few) (stopped_after _ _ _ _ _ (rw few at p) q)

-- the next step of a walk is taken, and what is to come has another form
pub claims_on : {knows : List ℕ → Type 0} {s' : Claims} {end : List ℕ → Claims} (v : Layout) (s : Claims) (x y : Walk)
    (rest : List ℕ → Claims) (step : Step) →
    ForBytes knows (λ bytes. steps_left bytes x ≡ step ∷ steps_left bytes y) → s' ≡ after_step v s step →
    ForBytes knows (λ bytes. after_steps v s (steps_left bytes x) ≡ end bytes) →
    ForBytes knows (λ bytes. after_steps v s' (steps_left bytes y) ≡ rest bytes) →
    ForBytes knows (λ bytes. rest bytes ≡ end bytes)
claims_on v s x y rest step next now before same = grind arith

-- and reported
pub lines_on : {knows : List ℕ → Type 0} (v : Layout) (inode : ℕ) (s s' : Claims) (x y : Walk) (step : Step) →
    ForBytes knows (λ bytes. steps_left bytes x ≡ step ∷ steps_left bytes y) → s' ≡ after_step v s step →
    ForBytes knows (λ bytes. of_lines (lines_of_steps v inode s (steps_left bytes x))
    ≡ of_lines (step_lines v inode s step) ++ of_lines (lines_of_steps v inode s' (steps_left bytes y)))
lines_on v inode s s' x y step next now = λ bytes t. rw (next bytes t, now) (lines_append (step_lines v inode s step) _)

pub steps_said : {knows : List ℕ → Type 0} {all : List ℕ → List Message} {a b c : Progress} (v : Layout) (inode : ℕ)
    (s s' : Claims) (x y : Walk) (rest : List ℕ → List BlockMessage) (step : Step) →
    SaidOf knows (λ bytes. of_lines (lines_of_steps v inode s (steps_left bytes x))) all a b →
    ForBytes knows (λ bytes. steps_left bytes x ≡ step ∷ steps_left bytes y) → s' ≡ after_step v s step →
    ForBytes knows (λ bytes. lines_of_steps v inode s' (steps_left bytes y) ≡ rest bytes) →
    Said b c (of_lines (step_lines v inode s step)) → SaidOf knows (λ bytes. of_lines (rest bytes)) all a c
steps_said v inode s s' x y rest step said next now same out =
    of_same {rest = λ bytes. of_lines (lines_of_steps v inode s' (steps_left bytes y))} {rest' = λ bytes. of_lines (rest bytes)}
    (of_says {rest' = λ bytes. of_lines (lines_of_steps v inode s' (steps_left bytes y))}
    {ms = of_lines (step_lines v inode s step)} said (lines_on v inode s s' x y step next now) out)
    (λ bytes t. ap of_lines (same bytes t))

-- gaps in a row change nothing, and nothing is reported of them
pub gaps_over : (v : Layout) (inode : ℕ) (s : Claims) (n : ℕ) (steps : List Step) →
    (after_steps v s (replicate n Gap ++ steps) ≡ after_steps v s steps)
    × (lines_of_steps v inode s (replicate n Gap ++ steps) ≡ lines_of_steps v inode s steps)
gaps_over v inode s zero steps = (refl, refl)
gaps_over v inode s (suc n) steps = gaps_over v inode s n steps

-- an inode that no walk goes over has no steps, nor has an empty one
pub without_steps : (v : Layout) (i : Inode) (bytes : List ℕ) → 0 < v.bsize →
    (is_walked v i && not (i.size == 0)) ≡ false → steps_of v i bytes ≡ []
unfolding steps_of
without_steps v i bytes some h = grind (arith, nat_tests)
