use Rattle.std.proofs.{Common.{◌<◌, ◌∙◌, ap, refl, length, subst, sym, arith}, lemmas.Bool.both_ways}
use Rattle.ffs_layout.specs.Entry.{entry_value}
use Rattle.ffs_paths.proofs.ChunkNames.{chunk_here, chunk_past, named_none, plain_named}
use Rattle.ffs_paths.proofs.name.find_in_chunk.Goals as goal

pub returns-then-is_naming_entry : goal.returns-then-is_naming_entry
returns-then-is_naming_entry c =
    let this = sym c.is_naming_entry.ensures ∙ c.if-is_naming_entry.true in
    let inv = c.entries.invariant in
    let there = c.in-Some.ensures.steps.there in
    record {
      name = λ _. c.set.ensures ∙ sym (inv.name ∙ chunk_here c.args.number c.in-Some.ensures.steps this);
      some = λ _. subst (λ name. 0 < length name) (sym c.set.ensures) (plain_named c.args.number _ _ c.in-Some.index
          c.entries.entries.place (entry_value c.in-Some.entry) _ (ap length inv.chunk ∙ c.told-chunk) there.some refl
          this);
      found = λ _. refl;
    }

pub returns : goal.returns
returns c = grind (arith, both_ways, named_none)

pub entries-preserved : goal.entries-preserved
entries-preserved c =
    let past = chunk_past c.args.number c.in-Some.ensures.steps (sym c.is_naming_entry.ensures ∙ c.if-is_naming_entry.false) in
    let inv = c.entries.invariant in
    record {
      chunk = ap (λ x. x.now) c.in-Some.ensures.steps.same.1 ∙ inv.chunk;
      name = inv.name ∙ past.0;
      named = inv.named ∙ past.1;
    }
