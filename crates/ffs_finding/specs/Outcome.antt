-- What a command leaves of its image and of its output, by its answer. `all` are the lines that it
-- prints of an image's bytes, and `knows` says which bytes these are.
use Rattle.std.specs.{Prelude.{◌≡◌, ℕ, Bool, true, false, List, [], ◌∷◌, ◌++◌, Result, Ok, Err, IfOk, ⊤}, List.concat}
use Rattle.ffs_report.specs.{Sink.{Sink, Took, BrokeOff, Prints}, PhaseOutcome.ImageAfter}
use Rattle.ffs_image.specs.Known.{ForBytes}
use Rattle.ffs_report.specs.declared.fault.RunFault.{RunFault, TheVariants.{Read, Out}}
use Rattle.ffs_check.specs.Moment.{Moment}

-- whole lines were printed, and with `rest`, those that are to come, they are `all`
pub record PrintedOf (knows : List ℕ → Type 0) (rest all : List ℕ → List (List ℕ)) (old new : Sink) : Type 0 where
  pub lines : List (List ℕ)
  pub right : ForBytes knows (λ bytes. lines ++ rest bytes ≡ all bytes)
  pub took : Took old new (concat lines)

-- the first ones of these lines, perhaps all of them, and what became of their bytes: they were taken, or the output
-- failed in them
pub record FirstLines (knows : List ℕ → Type 0) (all : List ℕ → List (List ℕ)) (IsOutcome : List ℕ → Type 0) : Type 0
  where
    pub lines : List (List ℕ)
    pub rest : List ℕ → List (List ℕ)
    pub right : ForBytes knows (λ bytes. lines ++ rest bytes ≡ all bytes)
    pub outcome : IsOutcome (concat lines)

-- all lines at Ok, whole ones at a read's fault, a prefix of their bytes at a fault of the output
abbrev pub PrintsLines : {T : Type 0} → (List ℕ → Type 0) → (List ℕ → List (List ℕ)) → (old new : Sink) →
    Result T RunFault → Type 0
PrintsLines knows all old new (Ok x) = PrintedOf knows (λ bytes. []) all old new
PrintsLines knows all old new (Err (Read fault)) = FirstLines knows all (Took old new)
PrintsLines knows all old new (Err (Out fault)) = FirstLines knows all (BrokeOff old new)

-- there is a line that isn't empty. No command has an empty line; the definition needs no proof of that
abbrev pub any_line : List (List ℕ) → Bool
any_line [] = false
any_line ([] ∷ lines) = any_line lines
any_line ((byte ∷ line) ∷ lines) = true

-- these lines were printed, or the output failed among them; the answer is whether there is one
pub record PrintsWhether {E : Type 0} (lines : List (List ℕ)) (old new : Sink) (result : Result Bool E) : Type 0 where
  pub text : Prints old new (concat lines) result
  pub any : IfOk result (λ b. b ≡ any_line lines)

-- what a command leaves of its image, and what it prints
pub record Finds {T : Type 0} (knows : List ℕ → Type 0) (all : List ℕ → List (List ℕ)) (old new : Moment)
    (result : Result T RunFault) : Type 0 where
  pub image : ImageAfter old.image new.image result
  pub text : PrintsLines knows all old.out new.out result

-- the answer is whether a line was printed
abbrev pub AnswersWhether : (knows : List ℕ → Type 0) → (all : List ℕ → List (List ℕ)) → (old new : Sink)
    → (result : Result Bool RunFault) → PrintsLines knows all old new result → Type 0
AnswersWhether knows all old new (Ok any) printed = any ≡ any_line printed.lines
AnswersWhether knows all old new (Err fault) printed = ⊤

-- what a command leaves of its image, and what it prints; the answer is whether there is a line
pub record FindsAny (knows : List ℕ → Type 0) (all : List ℕ → List (List ℕ)) (old new : Moment)
    (result : Result Bool RunFault) : Type 0 where
  pub found : Finds knows all old new result
  pub any : AnswersWhether knows all old.out new.out result found.text
