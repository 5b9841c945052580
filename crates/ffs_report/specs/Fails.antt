-- In which sectors of an image a call's read fails.
use Rattle.std.specs.Prelude.{ℕ, Result, Ok, Err, ⊤}
use Rattle.ffs_report.specs.declared.fault.RunFault.{RunFault, TheVariants.{Read, Out}}

-- P holds of the sector of a failed read, where that is the answer
abbrev pub FailsIn : {T : Type 0} → (ℕ → Type 0) → Result T RunFault → Type 0
FailsIn P (Ok x) = ⊤
FailsIn P (Err (Read fault)) = P fault.sector
FailsIn P (Err (Out fault)) = ⊤
