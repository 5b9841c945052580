use Rattle.std.proofs.Common.{◌≡◌, ◌∙◌, ℕ, List, Some, None, sym, ap, arith, option_map}
use Rattle.ffs_finding.specs.declared.request.{Command.{Command, TheVariants.{Copies, InVolume}}, Target.Target}
use Rattle.ffs_finding.specs.{declared.request.Target.TheVariants.{Inode, Fields, Lost, Owner}, CommandWords.IsNumber}
use Rattle.ffs_finding.specs.{CommandWords.{Operands, OperandsAskFor}, Operands.{IsTarget, operands_in}}
use Rattle.ffs_finding.proofs.words.asked_of.Goals as goal

-- an image after a number: only a command with a number is asked for
none_asked : (o : Operands) (image : List ℕ) (n : ℕ) → o.second ≡ Some image →
    ((m : ℕ) → IsNumber o.first m → m ≡ n) → ((target : Target) → IsTarget o.command n target → ⊥) →
    (command : Command) (name : List ℕ) → OperandsAskFor o command name → ⊥
none_asked o image n there value none Copies name p = let no : Some image ≡ None = sym there ∙ p.0.alone in cc
none_asked o image n there value none (InVolume (Inode m) sector) name p =
    none (Inode m) (p.0.word_is, value m p.0.number)
none_asked o image n there value none (InVolume Fields sector) name p = grind arith
none_asked o image n there value none (InVolume Lost sector) name p = grind arith
none_asked o image n there value none (InVolume (Owner m) sector) name p =
    none (Owner m) (p.0.word_is, value m p.0.number)

pub returns-in-None : goal.returns-in-None
returns-in-None c =
    let parsed = c.in-Ok.ensures.value in
    none_asked (operands_in c.args.operands.now) c.in-Some.name.now c.in-Ok.number
    (ap (option_map (λ s. s.now)) c.in-Some.is) (λ m q. grind (arith, q.value)) c.in-None.ensures
