-- What was read for messages, from one call to the next. (For the layers above.)
use Rattle.std.proofs.Common.{◌≤◌, ◌+◌, ◌*◌, ℕ, refl, sym, subst, arith, List, [], ◌∷◌, ◌++◌, length, length-append}
use Rattle.std.proofs.{Common.{Result, Ok, Err}, Math.Nat.{mul-le-mul_left, mul-le-mul_right}}
use Rattle.ffs_volume.specs.Messages.Kinds.{Message, cannot_alloc}
use Rattle.ffs_report.specs.{Progress.{Progress, Said, Stopped}, Paid.{LastBegun, Paid}, PhaseOutcome.PhaseReports}
use Rattle.ffs_report.{proofs.{Broken.stopped_where, Reports.{said_none, said_then}}, specs.declared.fault.RunFault.RunFault}
use Rattle.ffs_report.specs.declared.fault.RunFault.TheVariants.{Read, Out}

-- messages were said, and a last one was begun, or none: what was read for them
account : {T : Type 0} {price : ℕ} {a b : Progress} {before after : ℕ} {r : Result T RunFault} (ms last : List Message)
    (mid : Progress) → length last ≤ 1 → Said a mid ms → LastBegun last mid b r →
    after ≤ before + price * (length ms + length last) → Paid price a b before after r
account ms last mid few said begun most = grind arith

-- another account of the same messages
reckoned : {T : Type 0} {price price' : ℕ} {a b : Progress} {before after before' after' : ℕ} {r : Result T RunFault} →
    Paid price a b before after r → ((n : ℕ) → after ≤ before + price * n → after' ≤ before' + price' * n) →
    Paid price' a b before' after' r
reckoned p most = account p.messages p.last p.between p.few p.said p.begun (most _ p.most)

-- nothing was said
pub paid_none : {T : Type 0} {price : ℕ} {a : Progress} {before after : ℕ} {x : T} → after ≤ before →
    Paid price a a before after (Ok x)
paid_none {a = a} few = account [] [] a (omega arith) (said_none a) (refl, refl) (omega (arith, few))

-- messages were said for which nothing was read
pub paid_said : {price : ℕ} {a b : Progress} {before after : ℕ} (ms : List Message) → Said a b ms → after ≤ before →
    Paid {T = Unit {0}} price a b before after (Ok tt)
paid_said {b = b} ms said few = account ms [] b (omega arith) said (refl, refl) (omega (arith, few))

-- a read failed before anything was said, of those that are left for other reads
pub paid_failed : {T : Type 0} {price : ℕ} {a : Progress} {before after : ℕ} {fault : _} → after ≤ before →
    Paid {T = T} price a a before after (Err (Read fault))
paid_failed {a = a} few = account [] [] a (omega arith) (said_none a) refl (omega (arith, few))

-- one message or more pay for what one pays for
pays_one : (price before after n : ℕ) → 1 ≤ n → after ≤ before + price → after ≤ before + price * n
pays_one price before after n some few = omega (arith, few, mul-le-mul_left {m = 1} {n = n} price some)

-- a read failed for a message that was to come
pub paid_reads : {T : Type 0} {price : ℕ} {a : Progress} {before after : ℕ} {fault : _} → after ≤ before + price →
    Paid {T = T} price a a before after (Err (Read fault))
paid_reads {price = price} {a = a} {before = before} {after = after} few =
    account [] (cannot_alloc ∷ []) a (omega arith) (said_none a) refl
    (pays_one price before after 1 (omega arith) few)

-- messages were said, at least one
pub paid_says : {T : Type 0} {price : ℕ} {a b : Progress} {before after : ℕ} {x : T} (ms : List Message) → Said a b ms
    → 1 ≤ length ms → after ≤ before + price → Paid price a b before after (Ok x)
paid_says {price = price} {b = b} {before = before} {after = after} ms said some few = grind (arith, pays_one)

-- the output failed among messages
stops_paid : {T : Type 0} {price : ℕ} {a b : Progress} {before after : ℕ} {fault : _} (ms : List Message) →
    Stopped a b ms → ((n : ℕ) → (1 ≤ length ms → 1 ≤ n) → after ≤ before + price * n) →
    Paid {T = T} price a b before after (Err (Out fault))
stops_paid {a = a} {b = b} ms stopped most =
    let at = stopped_where a b ms stopped in
    account at.messages at.last at.between at.few at.said at.stopped (most _ at.some)

-- at least one
pub paid_stops : {T : Type 0} {price : ℕ} {a b : Progress} {before after : ℕ} {fault : _} (ms : List Message) →
    Stopped a b ms → 1 ≤ length ms → after ≤ before + price → Paid {T = T} price a b before after (Err (Out fault))
paid_stops {price = price} {before = before} {after = after} ms stopped some few = search (arith, stops_paid, pays_one)

-- more was left before, or after
pub paid_within : {T : Type 0} {price : ℕ} {a b : Progress} {before after before' after' : ℕ} {r : Result T RunFault} →
    Paid price a b before after r → before ≤ before' → after' ≤ after → Paid price a b before' after' r
paid_within p more fewer = reckoned p (λ n most. omega (arith, most, more, fewer))

-- beside other reads that are left
pub paid_beside : {T : Type 0} {price : ℕ} {a b : Progress} {before after : ℕ} {r : Result T RunFault} (k : ℕ) →
    Paid price a b before after r → Paid price a b (before + k) (after + k) r
paid_beside k p = reckoned p (λ n most. omega (arith, most))

-- at a higher price
pub paid_price : {T : Type 0} {a b : Progress} {before after : ℕ} {r : Result T RunFault} (price price' : ℕ) →
    price ≤ price' → Paid price a b before after r → Paid price' a b before after r
paid_price price price' dear p = reckoned p (λ n most. grind (arith, mul-le-mul_right))

-- messages were begun after others
pub paid_then : {T U : Type 0} {price : ℕ} {a b c : Progress} {before between after : ℕ} {x : T}
    {r : Result U RunFault} → Paid price a b before between (Ok x) → Paid price b c between after r →
    Paid price a c before after r
paid_then {a = a} {b = b} p q =
    let said : Said a b p.messages = subst (λ to. Said a to p.messages) (sym p.begun.1) p.said in
    let first = rw p.begun.0 at p.most in
    account (p.messages ++ q.messages) q.last q.between q.few
    (said_then a b q.between p.messages q.messages said q.said) q.begun
    (rw (length-append p.messages q.messages) (omega (arith, first, q.most)))

-- a call that answers something else, or the same fault
pub paid_answer : {T U : Type 0} {price : ℕ} {a b : Progress} {before after : ℕ} {x : T} {y : U} →
    Paid price a b before after (Ok x) → Paid price a b before after (Ok y)
paid_answer p = account p.messages p.last p.between p.few p.said p.begun p.most

pub paid_fault : {T U : Type 0} {price : ℕ} {a b : Progress} {before after : ℕ} (fault : RunFault) →
    Paid {T = T} price a b before after (Err fault) → Paid {T = U} price a b before after (Err fault)
paid_fault fault p1 = grind arith

-- messages for which nothing was taken but what was left before
pub paid_text : {T : Type 0} {price : ℕ} (knows : List ℕ → Type 0) (all : List ℕ → List Message) {a b : Progress}
    {before after : ℕ} (r : Result T RunFault) → PhaseReports knows all a b r → after ≤ before →
    Paid price a b before after r
paid_text knows all {b = b} (Ok x) p few = grind arith
paid_text knows all {b = b} (Err (Read fault)) p few = grind arith
paid_text knows all (Err (Out fault)) p few = stops_paid p.messages p.outcome (λ n _. omega (arith, few))
