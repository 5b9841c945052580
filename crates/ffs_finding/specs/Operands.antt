-- The operands as the program has them, and what it reads of them.
use Rattle.std.specs.Prelude.{◌≡◌, ℕ, List, Option, Some, None, codes, option_map}
use Rattle.ffs_check.specs.declared.program.Asked.{Asked}
use Rattle.ffs_finding.specs.declared.{words.Operands.Operands, request.{Command.Command, Target.Target}}
use Rattle.ffs_finding.specs.declared.request.Target.TheVariants.{Inode, Fields, Lost, Owner}
use Rattle.ffs_finding.specs.CommandWords as words

-- the operands of the program as those of the definitions
abbrev pub operands_in : Operands → words.Operands
operands_in o = record {
  command = o.command.now;
  first = o.first.now;
  second = option_map (λ s. s.now) o.second;
  sector = o.sector;
}

-- the operands ask for this, or for nothing
abbrev pub SaysOf : words.Operands → Option (Asked Command) → Type 0
SaysOf o (Some asked) = words.OperandsAskFor o asked.request asked.name.now
SaysOf o None = (command : Command) (name : List ℕ) → words.OperandsAskFor o command name → ⊥

-- a command finds this by a number
abbrev pub IsTarget : (word : List ℕ) (n : ℕ) → Target → Type 0
IsTarget word n (Inode number) = (word ≡ codes "inode") × (number ≡ n)
IsTarget word n Fields = ⊥
IsTarget word n Lost = ⊥
IsTarget word n (Owner fragment) = (word ≡ codes "owner") × (fragment ≡ n)
