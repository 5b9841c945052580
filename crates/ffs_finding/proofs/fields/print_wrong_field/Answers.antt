use Rattle.std.proofs.Common.{◌≡◌, false, rules, sym}
use Rattle.ffs_volume.specs.Find.Fields.{has_what_it_wants}
use Rattle.ffs_finding.{specs.Fields.field_of, proofs.{Printing.one, WrongFields.{field_is_text, field_line}}}
use Rattle.ffs_finding.proofs.fields.print_wrong_field.Goals as goal

pub returns : goal.returns
returns g c =
    let f = field_of c.args.field.now in
    let wrong : has_what_it_wants f ≡ false = search rules in
    rw (field_line c.args.start f wrong)
    (record { text = one c.in_ok-print_field.ensures; any = sym (field_is_text c.args.start f) })
