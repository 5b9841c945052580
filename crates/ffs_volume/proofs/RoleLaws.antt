-- Laws of `specs/Directories/Roles`.
use Rattle.std.proofs.Common.{◌≡◌, true, refl}
use Rattle.ffs_volume.specs.{Directories.Roles.is_plain, declared.Role.Role, declared.Role.TheVariants.Plain}

pub plain-true : (r : Role) → is_plain r ≡ true → r ≡ Plain
plain-true Plain h = refl
plain-true r h = absurd (cc)
