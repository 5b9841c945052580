use Rattle.std.proofs.{Common.{false, refl, sym, ◌∙◌, arith}, Math.Bool.{and-false, and-true}}
use Rattle.ffs_volume.specs.{declared.Role.TheVariants.{Extra, Plain}, Directories.Roles.Volume}
use Rattle.ffs_layout.specs.Entry.{entry_value}
use Rattle.ffs_names.proofs.{Shaped.fills_end, Stepping.{fills_on, roled_end, roled_on}}
use Rattle.ffs_pathnames.specs.{PassedNames.is_quiet, Sees.stamps_in}
use Rattle.ffs_pathnames.proofs.{Looking.{quiet_on, silent_roles, stamps_on}, StampLaws.words_more}
use Rattle.ffs_pathnames.proofs.look.look_chunk.Goals as goal

pub entries-preserved-in-Empty : goal.entries-preserved-in-Empty
entries-preserved-in-Empty c =
    let old = stamps_in c.args.inodes.now c.entries.words.items in
    let inv = c.entries.invariant in
    let dir = c.args.chunk.now.dir in
    let flags = c.args.flags.now.items in
    let next = roled_on c.args.chunk.now.at_start c.role_of.result c.in-Some.ensures.steps c.role_of.ensures in
    let other = λ (vol : Volume). silent_roles vol dir flags old c.role_of.result (entry_value c.in-Some.entry) c.in-Empty.is in
    record {
      words = inv.words;
      quiet = λ vol s. quiet_on vol dir flags old c.entries.quiet next (rw (other vol).0 (sym (and-true c.entries.quiet)))
          (sym (other vol).1) (inv.quiet vol s);
      stamps = λ vol s. stamps_on vol dir old next (sym (other vol).1) (inv.stamps vol s);
      sound = fills_on c.in-Some.ensures.steps ∙ inv.sound;
    }

pub entries-preserved-in-Extra : goal.entries-preserved-in-Extra
unfolding is_quiet
entries-preserved-in-Extra c =
    let old = stamps_in c.args.inodes.now c.entries.words.items in
    let inv = c.entries.invariant in
    let dir = c.args.chunk.now.dir in
    let flags = c.args.flags.now.items in
    let next = roled_on c.args.chunk.now.at_start Extra c.in-Some.ensures.steps (sym c.in-Extra.is ∙ c.role_of.ensures) in
    record {
      words = inv.words;
      quiet = λ v s. quiet_on v dir flags old {still = false} c.entries.quiet next (sym (and-false c.entries.quiet)) refl
          (inv.quiet v s);
      stamps = λ v s. stamps_on v dir old next refl (inv.stamps v s);
      sound = fills_on c.in-Some.ensures.steps ∙ inv.sound;
    }

pub entries-preserved : goal.entries-preserved
entries-preserved c =
    let old = stamps_in c.args.inodes.now c.entries.words.items in
    let inv = c.entries.invariant in
    let dir = c.args.chunk.now.dir in
    let flags = c.args.flags.now.items in
    let look = c.look_plain-quiet.ensures in
    let next = roled_on c.args.chunk.now.at_start Plain c.in-Some.ensures.steps (sym c.in-Plain.is ∙ c.role_of.ensures) in
    record {
      words = words_more inv.words look.stamps.words;
      quiet = λ v s. quiet_on v dir flags old c.entries.quiet next (look.quiet v s) (look.stamps.after v s) (inv.quiet v s);
      stamps = λ v s. stamps_on v dir old next (look.stamps.after v s) (inv.stamps v s);
      sound = fills_on c.in-Some.ensures.steps ∙ inv.sound;
    }

pub returns : goal.returns
returns c = grind (arith, roled_end, and-true, fills_end)
