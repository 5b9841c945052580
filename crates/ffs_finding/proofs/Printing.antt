-- How lines are printed, one after another.
use Rattle.std.proofs.Common.{◌≡◌, refl, ◌∙◌, sym, ℕ, List, [], ◌∷◌, ◌++◌, append_assoc, append-nil, Result, Ok, Err}
use Rattle.std.{proofs.Common.{ap, arith, Bool, true}, specs.{List.concat, Prelude.◌||◌}}
use Rattle.ffs_report.specs.{Sink.{Sink, Took, BrokeOff}, declared.fault.RunFault.{RunFault, TheVariants.{Read, Out}}}
use Rattle.ffs_report.proofs.Sinks.{took_nil, took_then, broke_off_after}
use Rattle.ffs_image.specs.Known.{ForBytes}
use Rattle.ffs_finding.specs.Outcome.{FirstLines, PrintedOf, PrintsLines, any_line}

-- the bytes of lines and of others after them
pub concat-append : (xs ys : List (List ℕ)) → concat (xs ++ ys) ≡ concat xs ++ concat ys
concat-append [] ys = refl
concat-append (x ∷ xs) ys = grind (arith, append_assoc, concat-append xs ys)

pub begins : (knows : List ℕ → Type 0) (all : List ℕ → List (List ℕ)) (a : Sink) → PrintedOf knows all all a a
begins knows all a = record { lines = []; right = λ bytes k. refl; took = took_nil a }

pub prints : (knows : List ℕ → Type 0) (rest rest' all : List ℕ → List (List ℕ)) (ms : List (List ℕ)) (a b c : Sink) →
    PrintedOf knows rest all a b → ForBytes knows (λ bytes. rest bytes ≡ ms ++ rest' bytes) → Took b c (concat ms) →
    PrintedOf knows rest' all a c
prints knows rest rest' all ms a b c p e q = record {
  lines = p.lines ++ ms;
  right = λ bytes k. grind (arith, append_assoc, e bytes k, p.right bytes k);
  took = rw (concat-append p.lines ms) (took_then a b c (concat p.lines) (concat ms) p.took q);
}

pub stops : (knows : List ℕ → Type 0) (rest rest' all : List ℕ → List (List ℕ)) (ms : List (List ℕ)) (a b c : Sink) →
    PrintedOf knows rest all a b → ForBytes knows (λ bytes. rest bytes ≡ ms ++ rest' bytes) →
    BrokeOff b c (concat ms) → FirstLines knows all (BrokeOff a c)
stops knows rest rest' all ms a b c p e q = record {
  lines = p.lines ++ ms;
  rest = rest';
  right = λ bytes k. grind (arith, append_assoc, e bytes k, p.right bytes k);
  outcome = rw (concat-append p.lines ms) (broke_off_after a b c (concat p.lines) (concat ms) p.took q);
}

-- all was printed at once
pub prints_all : {knows : List ℕ → Type 0} {all : List ℕ → List (List ℕ)} {ms : List (List ℕ)} {a b : Sink} →
    ForBytes knows (λ bytes. all bytes ≡ ms) → Took a b (concat ms) → PrintedOf knows (λ bytes. []) all a b
prints_all {knows} {all} {ms} e p = grind (arith, append-nil)

pub prints_none : {knows : List ℕ → Type 0} {all : List ℕ → List (List ℕ)} {a : Sink} →
    ForBytes knows (λ bytes. all bytes ≡ []) → PrintedOf knows (λ bytes. []) all a a
prints_none {knows} {all} {a} e = prints_all e (took_nil a)

pub stops_all : {knows : List ℕ → Type 0} {all : List ℕ → List (List ℕ)} {ms : List (List ℕ)} {a b : Sink} →
    ForBytes knows (λ bytes. all bytes ≡ ms) → BrokeOff a b (concat ms) → FirstLines knows all (BrokeOff a b)
stops_all {knows} {all} {ms} e p = record {
  lines = ms;
  rest = λ bytes. [];
  right = λ bytes k. append-nil ms ∙ sym (e bytes k);
  outcome = p;
}

-- a read failed after some lines, and before anything was printed
pub reads_after : {knows : List ℕ → Type 0} {rest all : List ℕ → List (List ℕ)} {a b : Sink} →
    PrintedOf knows rest all a b → FirstLines knows all (Took a b)
reads_after {rest = rest} p = record { lines = p.lines; rest = rest; right = p.right; outcome = p.took }

pub reads_first : {knows : List ℕ → Type 0} {all : List ℕ → List (List ℕ)} {a : Sink} →
    FirstLines knows all (Took a a)
reads_first {knows} {all} {a} = reads_after (begins knows all a)

-- one line was printed, which is all
pub one : {a b : Sink} {text : List ℕ} → Took a b text → Took a b (concat (text ∷ []))
one {a} {b} {text} p = rw (append-nil text) p

pub one_broken : {a b : Sink} {text : List ℕ} → BrokeOff a b text → BrokeOff a b (concat (text ∷ []))
one_broken {a} {b} {text} p = rw (append-nil text) p

-- ---- a part of the lines
-- a part was printed
pub part : (knows : List ℕ → Type 0) (rest this rest' all : List ℕ → List (List ℕ)) (a b c : Sink) →
    PrintedOf knows rest all a b → ForBytes knows (λ bytes. rest bytes ≡ this bytes ++ rest' bytes) →
    PrintedOf knows (λ bytes. []) this b c → PrintedOf knows rest' all a c
part knows rest this rest' all a b c p e q = record {
  lines = p.lines ++ q.lines;
  right = λ bytes k. grind (arith, append_assoc, append-nil, p.right bytes k, q.right bytes k, e bytes k);
  took = rw (concat-append p.lines q.lines) (took_then a b c (concat p.lines) (concat q.lines) p.took q.took);
}

part_right : (knows : List ℕ → Type 0) (rest this rest' all more : List ℕ → List (List ℕ)) (xs ys : List (List ℕ)) →
    ForBytes knows (λ bytes. xs ++ rest bytes ≡ all bytes) →
    ForBytes knows (λ bytes. rest bytes ≡ this bytes ++ rest' bytes) →
    ForBytes knows (λ bytes. ys ++ more bytes ≡ this bytes) →
    ForBytes knows (λ bytes. (xs ++ ys) ++ (more bytes ++ rest' bytes) ≡ all bytes)
part_right knows rest this rest' all more xs ys p e q = grind (arith, append_assoc)

-- some of a part was printed, and `more` of it is to come
pub some_of_part : (knows : List ℕ → Type 0) (rest this more rest' left all : List ℕ → List (List ℕ)) (a b c : Sink) →
    PrintedOf knows rest all a b → ForBytes knows (λ bytes. rest bytes ≡ this bytes ++ rest' bytes) →
    ForBytes knows (λ bytes. left bytes ≡ more bytes ++ rest' bytes) → PrintedOf knows more this b c →
    PrintedOf knows left all a c
some_of_part knows rest this more rest' left all a b c p e is q = record {
  lines = p.lines ++ q.lines;
  right = λ bytes k. ap (λ ls. (p.lines ++ q.lines) ++ ls) (is bytes k)
      ∙ part_right knows rest this rest' all more p.lines q.lines p.right e q.right bytes k;
  took = rw (concat-append p.lines q.lines) (took_then a b c (concat p.lines) (concat q.lines) p.took q.took);
}

-- a fault came in a part
pub part_fault : (T E : Type 0) (knows : List ℕ → Type 0) (rest this rest' all : List ℕ → List (List ℕ)) (a b c : Sink)
    (fault : RunFault) → PrintedOf knows rest all a b →
    ForBytes knows (λ bytes. rest bytes ≡ this bytes ++ rest' bytes) →
    PrintsLines {T = T} knows this b c (Err fault) → PrintsLines {T = E} knows all a c (Err fault)
part_fault T E knows rest this rest' all a b c (Read fault) p e q = record {
  lines = p.lines ++ q.lines;
  rest = λ bytes. q.rest bytes ++ rest' bytes;
  right = part_right knows rest this rest' all q.rest p.lines q.lines p.right e q.right;
  outcome = rw (concat-append p.lines q.lines) (took_then a b c (concat p.lines) (concat q.lines) p.took q.outcome);
}
part_fault T E knows rest this rest' all a b c (Out fault) p e q = record {
  lines = p.lines ++ q.lines;
  rest = λ bytes. q.rest bytes ++ rest' bytes;
  right = part_right knows rest this rest' all q.rest p.lines q.lines p.right e q.right;
  outcome = rw (concat-append p.lines q.lines) (broke_off_after a b c (concat p.lines) (concat q.lines) p.took q.outcome);
}

-- ---- whether there was a line
pub any_more : (xs ys : List (List ℕ)) → any_line (xs ++ ys) ≡ (any_line xs || any_line ys)
any_more [] ys = refl
any_more ([] ∷ xs) ys = any_more xs ys
any_more ((b ∷ x) ∷ xs) ys = refl

-- a line that ends with a text, or begins with one
pub text_at_end : (xs ys : List ℕ) → any_line (ys ∷ []) ≡ true → any_line ((xs ++ ys) ∷ []) ≡ true
text_at_end [] ys some = some
text_at_end (x ∷ xs) ys some = refl

pub text_at_begin : (xs ys : List ℕ) → any_line (xs ∷ []) ≡ true → any_line ((xs ++ ys) ∷ []) ≡ true
text_at_begin [] ys some = absurd (cc)
text_at_begin (x ∷ xs) ys some = refl

-- whole lines were printed, and `any` says whether there was one
pub record PrintedWhether (knows : List ℕ → Type 0) (rest all : List ℕ → List (List ℕ)) (any : Bool) (old new : Sink) :
    Type 0 where
  pub printed : PrintedOf knows rest all old new
  pub any_is : any ≡ any_line printed.lines

pub prints_whether : (knows : List ℕ → Type 0) (rest rest' all : List ℕ → List (List ℕ)) (ms : List (List ℕ))
    (any found : Bool) (a b c : Sink) → PrintedWhether knows rest all any a b →
    ForBytes knows (λ bytes. rest bytes ≡ ms ++ rest' bytes) → Took b c (concat ms) → found ≡ any_line ms →
    PrintedWhether knows rest' all (any || found) a c
prints_whether knows rest rest' all ms any found a b c p e q here = record {
  printed = record {
    lines = p.printed.lines ++ ms;
    right = λ bytes k. grind (arith, append_assoc, e bytes k, p.printed.right bytes k);
    took = rw (concat-append p.printed.lines ms) (took_then a b c (concat p.printed.lines) (concat ms) p.printed.took q);
  };
  any_is = rw (any_more p.printed.lines ms, p.any_is, here) refl;
}

-- where more is known, and with that these are the same lines
abbrev pub printed_knowing : {knows knows' : List ℕ → Type 0} {rest all all' : List ℕ → List (List ℕ)} {a b : Sink} →
    ForBytes knows' (λ bytes. knows bytes × (all bytes ≡ all' bytes)) → PrintedOf knows rest all a b →
    PrintedOf knows' rest all' a b
printed_knowing more p = record {
  lines = p.lines;
  right = λ bytes k. p.right bytes (more bytes k).0 ∙ (more bytes k).1;
  took = p.took;
}

abbrev pub first_knowing : {knows knows' : List ℕ → Type 0} {all all' : List ℕ → List (List ℕ)} {P : List ℕ → Type 0} →
    ForBytes knows' (λ bytes. knows bytes × (all bytes ≡ all' bytes)) → FirstLines knows all P → FirstLines knows' all' P
first_knowing more p = record {
  lines = p.lines;
  rest = p.rest;
  right = λ bytes k. p.right bytes (more bytes k).0 ∙ (more bytes k).1;
  outcome = p.outcome;
}

-- where more is known
pub knowing : (T : Type 0) (knows knows' : List ℕ → Type 0) (all : List ℕ → List (List ℕ)) (a b : Sink)
    (r : Result T RunFault) → ForBytes knows' knows → PrintsLines knows all a b r → PrintsLines knows' all a b r
knowing T knows knows' all a b (Ok x) more p = grind arith
knowing T knows knows' all a b (Err (Read fault)) more p = grind arith
knowing T knows knows' all a b (Err (Out fault)) more p = grind arith
