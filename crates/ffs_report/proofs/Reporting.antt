-- How a phase continues and ends: for its answers, in which most arguments can be written as `_`.
use Rattle.std.proofs.Common.{◌≡◌, refl, ◌∙◌, sym, ℕ, List, [], ◌++◌, append_assoc, append-nil, Result, Ok, Err, arith}
use Rattle.std.proofs.{Common.{◌∷◌, ◌+◌, ◌-◌, ◌≤◌, ap, map}, lemmas.List.{append_cancel_right, map-append}}
use Rattle.ffs_volume.{specs.Messages.Kinds.{Message, TreeMessage, lines_below, lines_from, of_tree}, proofs.Numbered.below_and_from}
use Rattle.ffs_report.specs.{Progress.{Progress, Said, Stopped}, PhaseOutcome.{SaidTo, SaidOf}}
use Rattle.ffs_image.specs.Known.{ForBytes}
use Rattle.ffs_report.specs.PhaseOutcome.{FirstMessages, HeadingFirst, PhaseReports}
use Rattle.ffs_report.proofs.Reports.{said_none}
use Rattle.ffs_report.{proofs.Reports.{said_then, stopped_after, stopped_more}, specs.declared.fault.RunFault.RunFault}
use Rattle.ffs_report.specs.declared.fault.RunFault.TheVariants.{Read, Out}

-- ---- messages that are known
pub to_begins : (all : List Message) (a : Progress) → SaidTo all all a a
to_begins all a = record { messages = []; right = refl; said = said_none a }

pub to_says : {rest rest' all ms : List Message} {a b c : Progress} → SaidTo rest all a b → rest ≡ ms ++ rest' →
    Said b c ms → SaidTo rest' all a c
to_says {rest} {rest'} {all} {ms} {a} {b} {c} p e q = record {
  messages = p.messages ++ ms;
  right = grind (arith, append_assoc, e, p.right);
  said = said_then a b c p.messages ms p.said q;
}

pub to_stops : (rest rest' all ms : List Message) (a b c : Progress) → SaidTo rest all a b → rest ≡ ms ++ rest' →
    Stopped b c ms → Stopped a c all
to_stops rest rest' all ms a b c p e q = grind (arith, stopped_more, stopped_after)

pub to_ends : (rest all : List Message) (a b : Progress) → SaidTo rest all a b → rest ≡ [] → Said a b all
to_ends rest all a b p e = grind (arith, append-nil)

-- ---- messages of an image's bytes
pub of_begins : {knows : List ℕ → Type 0} {all : List ℕ → List Message} {a : Progress} → SaidOf knows all all a a
of_begins {knows} {all} {a} = record { messages = []; right = λ bytes k. refl; said = said_none a }

pub of_says : {knows : List ℕ → Type 0} {rest rest' all : List ℕ → List Message} {ms : List Message} {a b c : Progress}
    →
    SaidOf knows rest all a b → ForBytes knows (λ bytes. rest bytes ≡ ms ++ rest' bytes) → Said b c ms →
    SaidOf knows rest' all a c
of_says {knows} {rest} {rest'} {all} {ms} {a} {b} {c} p e q = record {
  messages = p.messages ++ ms;
  right = λ bytes k. grind (arith, append_assoc, e bytes k, p.right bytes k);
  said = said_then a b c p.messages ms p.said q;
}

pub of_stops : (knows : List ℕ → Type 0) (rest rest' all : List ℕ → List Message) (ms : List Message) (a b c : Progress)
    →
    SaidOf knows rest all a b → ForBytes knows (λ bytes. rest bytes ≡ ms ++ rest' bytes) → Stopped b c ms →
    FirstMessages knows all (Stopped a c)
of_stops knows rest rest' all ms a b c p e q = record {
  messages = p.messages ++ ms;
  rest = rest';
  right = λ bytes k. grind (arith, append_assoc, e bytes k, p.right bytes k);
  outcome = stopped_after a b c p.messages ms p.said q;
}

pub of_reads : {knows : List ℕ → Type 0} {rest all : List ℕ → List Message} {a b : Progress} → SaidOf knows rest all a b
    → FirstMessages knows all (Said a b)
of_reads {knows} {rest} {all} {a} {b} p =
    record { messages = p.messages; rest = rest; right = p.right; outcome = p.said }

-- all was said at once, or nothing is to come, and the output failed among all
pub says_all : {knows : List ℕ → Type 0} {all : List ℕ → List Message} {ms : List Message} {a b : Progress} →
    ForBytes knows (λ bytes. all bytes ≡ ms) → Said a b ms → SaidOf knows (λ bytes. []) all a b
says_all {knows} {all} {ms} e p = grind (arith, append-nil)

pub says_none : {knows : List ℕ → Type 0} {all : List ℕ → List Message} {a : Progress} →
    ForBytes knows (λ bytes. all bytes ≡ []) → SaidOf knows (λ bytes. []) all a a
says_none {knows} {all} {a} e = says_all e (said_none a)

pub stops_all : {knows : List ℕ → Type 0} {all : List ℕ → List Message} {ms : List Message} {a b : Progress} →
    ForBytes knows (λ bytes. all bytes ≡ ms) → Stopped a b ms → FirstMessages knows all (Stopped a b)
stops_all {knows} {all} {ms} e p = record {
  messages = ms;
  rest = λ bytes. [];
  right = λ bytes k. append-nil ms ∙ sym (e bytes k);
  outcome = p;
}

-- a read failed before anything was said
pub reads_first : {knows : List ℕ → Type 0} {all : List ℕ → List Message} {a : Progress} → FirstMessages knows all (Said a a)
reads_first {knows} {all} {a} = of_reads (of_begins {all = all})

-- a heading was said, and other messages are to come
pub says_heading : {knows : List ℕ → Type 0} {lines rest : List ℕ → List Message} {m : Message} {a b : Progress} →
    ForBytes knows (λ bytes. lines bytes ≡ rest bytes) → Said a b (m ∷ []) →
    SaidOf knows rest (λ bytes. m ∷ lines bytes) a b
says_heading {m = m} e p = grind arith

pub stops_heading : {knows : List ℕ → Type 0} {lines : List ℕ → List Message} {m : Message} {a b : Progress} →
    Stopped a b (m ∷ []) → FirstMessages knows (λ bytes. m ∷ lines bytes) (Stopped a b)
stops_heading {lines = lines} {m = m} p =
    record { messages = m ∷ []; rest = lines; right = λ bytes k. refl; outcome = p }

-- what is to come has changed its form
pub of_same : {knows : List ℕ → Type 0} {rest rest' all : List ℕ → List Message} {a b : Progress} →
    SaidOf knows rest all a b → ForBytes knows (λ bytes. rest bytes ≡ rest' bytes) → SaidOf knows rest' all a b
of_same {knows} {rest} {rest'} {all} {a} {b} p e = grind arith

-- where the lines of the numbers from d on are to come, those of the numbers below were said
pub said_below : {knows : List ℕ → Type 0} {a b : Progress} (m : Message) (lines : List ℕ → ℕ → List TreeMessage)
    (d n : ℕ) → d ≤ n → SaidOf knows (λ bytes. map of_tree (lines_from (lines bytes) d (n - d)))
    (λ bytes. m ∷ map of_tree (lines_below (lines bytes) n)) a b →
    SaidOf knows (λ bytes. []) (λ bytes. m ∷ map of_tree (lines_below (lines bytes) d)) a b
said_below m lines d n low p = record {
  messages = p.messages;
  right = λ bytes k.
      let all : d + (n - d) ≡ n = omega (arith, low) in
      append-nil _ ∙ append_cancel_right _ _ _ (p.right bytes k
      ∙ ap (λ ms. m ∷ map of_tree ms) (ap (lines_below (lines bytes)) (sym all) ∙ below_and_from (lines bytes) (n - d) d)
      ∙ ap (λ ms. m ∷ ms) (map-append of_tree (lines_below (lines bytes) d) _));
  said = p.said;
}

-- a part of a phase answered Ok, or a fault
pub of_part : {knows : List ℕ → Type 0} {rest part rest' all : List ℕ → List Message} {a b c : Progress} →
    SaidOf knows rest all a b → ForBytes knows (λ bytes. rest bytes ≡ part bytes ++ rest' bytes) →
    SaidOf knows (λ bytes. []) part b c → SaidOf knows rest' all a c
of_part {knows} {rest} {part} {rest'} {all} {a} {b} {c} p e q = record {
  messages = p.messages ++ q.messages;
  right = λ bytes k. grind (arith, append_assoc, append-nil, p.right bytes k, q.right bytes k, e bytes k);
  said = said_then a b c p.messages q.messages p.said q.said;
}

part_right : (knows : List ℕ → Type 0) (rest part rest' all more : List ℕ → List Message) (xs ys : List Message) →
    ForBytes knows (λ bytes. xs ++ rest bytes ≡ all bytes) →
    ForBytes knows (λ bytes. rest bytes ≡ part bytes ++ rest' bytes) →
    ForBytes knows (λ bytes. ys ++ more bytes ≡ part bytes) →
    ForBytes knows (λ bytes. (xs ++ ys) ++ (more bytes ++ rest' bytes) ≡ all bytes)
part_right knows rest part rest' all more xs ys p e q = grind (arith, append_assoc)

pub of_fault : (T E : Type 0) (knows : List ℕ → Type 0) (rest part rest' all : List ℕ → List Message) (a b c : Progress)
    (fault : RunFault) →
    SaidOf knows rest all a b → ForBytes knows (λ bytes. rest bytes ≡ part bytes ++ rest' bytes) →
    PhaseReports {T = T} knows part b c (Err fault) → PhaseReports {T = E} knows all a c (Err fault)
of_fault T E knows rest part rest' all a b c (Read fault) p e q = record {
  messages = p.messages ++ q.messages;
  rest = λ bytes. q.rest bytes ++ rest' bytes;
  right = part_right knows rest part rest' all q.rest p.messages q.messages p.right e q.right;
  outcome = said_then a b c p.messages q.messages p.said q.outcome;
}
of_fault T E knows rest part rest' all a b c (Out fault) p e q = record {
  messages = p.messages ++ q.messages;
  rest = λ bytes. q.rest bytes ++ rest' bytes;
  right = part_right knows rest part rest' all q.rest p.messages q.messages p.right e q.right;
  outcome = stopped_after a b c p.messages q.messages p.said q.outcome;
}

-- the outcome of a phase's last part
pub of_last : (T : Type 0) (knows : List ℕ → Type 0) (rest part all : List ℕ → List Message) (a b c : Progress)
    (r : Result T RunFault) →
    SaidOf knows rest all a b → ForBytes knows (λ bytes. rest bytes ≡ part bytes) → PhaseReports knows part b c r →
    PhaseReports knows all a c r
of_last T knows rest part all a b c (Ok x) p e q = grind (arith, of_part, append-nil)
of_last T knows rest part all a b c (Err fault) p e q =
    of_fault T T knows rest part (λ bytes. []) all a b c fault p (λ bytes k. e bytes k ∙ sym (append-nil (part bytes)))
    q

-- ---- where more is known than was wanted, and all has changed its form
said_by : (knows knows' : List ℕ → Type 0) (rest all all' : List ℕ → List Message) (a b : Progress) →
    ForBytes knows' knows → ForBytes knows' (λ bytes. all bytes ≡ all' bytes) → SaidOf knows rest all a b →
    SaidOf knows' rest all' a b
said_by knows knows' rest all all' a b more e p = grind arith

reports_by : (T : Type 0) (knows knows' : List ℕ → Type 0) (all all' : List ℕ → List Message) (a b : Progress)
    (r : Result T RunFault) → ForBytes knows' knows → ForBytes knows' (λ bytes. all bytes ≡ all' bytes) →
    PhaseReports knows all a b r → PhaseReports knows' all' a b r
reports_by T knows knows' all all' a b r p1 p2 p3 = grind arith

pub said_knows : {knows knows' : List ℕ → Type 0} {rest all : List ℕ → List Message} {a b : Progress} →
    ForBytes knows' knows → SaidOf knows rest all a b → SaidOf knows' rest all a b
said_knows {knows} {knows'} {rest} {all} {a} {b} more p = said_by knows knows' rest all all a b more (λ bytes k. refl) p

pub reports_knowing : (T : Type 0) (knows knows' : List ℕ → Type 0) (all : List ℕ → List Message) (a b : Progress)
    (r : Result T RunFault) →
    ForBytes knows' knows → PhaseReports knows all a b r → PhaseReports knows' all a b r
reports_knowing T knows knows' all a b r more p = reports_by T knows knows' all all a b r more (λ bytes k. refl) p

pub reports_same : (T : Type 0) (knows : List ℕ → Type 0) (all all' : List ℕ → List Message) (a b : Progress)
    (r : Result T RunFault) →
    ForBytes knows (λ bytes. all bytes ≡ all' bytes) → PhaseReports knows all a b r → PhaseReports knows all' a b r
reports_same T knows all all' a b r e p = reports_by T knows knows all all' a b r (λ bytes k. k) e p

-- ---- the heading, of any image
pub heading_alone : {T : Type 0} {heading : Message} {a b : Progress} {x : T} → Said a b (heading ∷ []) →
    HeadingFirst heading a b (Ok x)
heading_alone said = record { more = []; says = said }

-- messages after it
pub heading_then : {T U : Type 0} {heading : Message} {a b c : Progress} {x : T} {y : U} (ms : List Message) →
    HeadingFirst heading a b (Ok x) → Said b c ms → HeadingFirst heading a c (Ok y)
heading_then {heading = heading} {a = a} {b = b} {c = c} ms p q =
    record { more = p.more ++ ms; says = said_then a b c (heading ∷ p.more) ms p.says q }

-- a read that failed after it
pub heading_reads : {T U : Type 0} {heading : Message} {a b : Progress} {x : T} {fault : _} →
    HeadingFirst heading a b (Ok x) → HeadingFirst {T = U} heading a b (Err (Read fault))
heading_reads p = record { more = p.more; says = p.says }

-- the output failed among messages after it
pub heading_stops : {T U : Type 0} {heading : Message} {a b c : Progress} {x : T} {fault : _} (ms : List Message) →
    HeadingFirst heading a b (Ok x) → Stopped b c ms → HeadingFirst {T = U} heading a c (Err (Out fault))
heading_stops {heading = heading} {a = a} {b = b} {c = c} ms p q =
    record { more = p.more ++ ms; says = stopped_after a b c (heading ∷ p.more) ms p.says q }

-- a part of a phase after it
pub heading_part : {T U : Type 0} {heading : Message} (knows : List ℕ → Type 0) (part : List ℕ → List Message)
    {a b c : Progress} {x : T} (r : Result U RunFault) → HeadingFirst heading a b (Ok x) →
    PhaseReports knows part b c r → HeadingFirst heading a c r
heading_part knows part (Ok y) p q = heading_then q.messages p q.said
heading_part knows part (Err (Read fault)) p q = heading_reads (heading_then {y = tt {0}} q.messages p q.outcome)
heading_part knows part (Err (Out fault)) p q = heading_stops q.messages p q.outcome
