use Rattle.std.proofs.Common.{◌≡◌, ◌∙◌, ℕ, ◌<◌, ◌≤◌, Bool, true, false, List, [], ◌∷◌, nat_lt, arith, refl, sym, ap}
use Rattle.std.specs.Prelude.{nat_le, if◌then◌else◌}
use Rattle.std.proofs.{Common.rules, lemmas.Bool.Decides.nat_tests}
use Rattle.ffs_image.specs.{Device.Device, Known.ForBytes}
use Rattle.ffs_volume.specs.{Blocks.Claims.is_set, Disk.Areas.is_reserved, Laws.Geometry.IsAcceptedLayout}
use Rattle.ffs_volume.specs.{declared.Layout.Layout, Find.Owner.{keeper_lines, or_lines, lines_of_fragment}}
use Rattle.ffs_volume.{specs.{Find.Owner.reserved_text, Report.Reads.sweep_reads}, proofs.Results.fails_with}
use Rattle.ffs_maps.specs.Bits.{bits_of}
use Rattle.ffs_workspace.specs.declared.workspace.Workspace.{Workspace}
use Rattle.ffs_finding.{specs.{Claims.{HoldsBlocks, WithBlocks}, Keepers.{map_lines, owner_reads}}, proofs.Claimed.claimed_is}
use Rattle.ffs_finding.proofs.{Claimed.has_line, Keepers.same_lines, Leaving.{block_read, size_after}, Printing.knowing}
use Rattle.ffs_finding.proofs.Printing.{one, one_broken, prints_all, prints_none, stops_all}
use Rattle.ffs_finding.proofs.owner.find_owner.Goals as goal

no_fragment : (v : Layout) (b : List ℕ) (f : ℕ) → v.size ≤ f → lines_of_fragment v b f ≡ []
unfolding lines_of_fragment
no_fragment v b f h = let e : nat_lt f v.size ≡ false = grind (arith, nat_tests) in rw e refl

is_reserved_line : (v : Layout) (b : List ℕ) (f : ℕ) → f < v.size → is_reserved v f ≡ true →
    lines_of_fragment v b f ≡ reserved_text v f ∷ []
unfolding lines_of_fragment
is_reserved_line v b f h r = let e : nat_lt f v.size ≡ true = grind (arith, nat_tests) in rw (e, r) refl

others : (v : Layout) (b : List ℕ) (f : ℕ) → f < v.size → is_reserved v f ≡ false →
    lines_of_fragment v b f ≡ or_lines (keeper_lines v b f) (map_lines v b f)
unfolding lines_of_fragment
others v b f h r = let e : nat_lt f v.size ≡ true = grind (arith, nat_tests) in rw (e, r) refl

first_ones : (xs ys : List (List ℕ)) → has_line xs ≡ true → or_lines xs ys ≡ xs
first_ones [] ys e = cc
first_ones (x ∷ xs) ys e = refl

second_ones : (xs ys : List (List ℕ)) → has_line xs ≡ false → or_lines xs ys ≡ ys
second_ones [] ys e = refl
second_ones (x ∷ xs) ys e = cc

-- what is held stays where only the windows change
owners_held : (v : Layout) (b : List ℕ) (old new : Workspace) → new ≡ record old { windows = new.windows } →
    HoldsBlocks v b old → HoldsBlocks v b new
owners_held v b old new e h = grind arith

-- whether the fragment is claimed says which lines there are
claimed_lines : (v : Layout) (d : Device) (w : Workspace) (f : ℕ) (claimed : Bool) → IsAcceptedLayout v → f < v.size →
    is_reserved v f ≡ false → claimed ≡ is_set (bits_of w.used) f →
    ForBytes (WithBlocks v d w) (λ b. claimed ≡ has_line (keeper_lines v b f))
claimed_lines v d w f claimed g h r e b k = e ∙ (ap (λ bits. is_set bits f) k.1.used ∙ claimed_is v b f g h r)

-- how often the image is read for a fragment that isn't reserved, by what the map of used ones says
reads_of : (v : Layout) (w w' : Workspace) (f : ℕ) (claimed : Bool) → f < v.size → is_reserved v f ≡ false →
    w' ≡ record w { windows = w'.windows } → claimed ≡ is_set (bits_of w'.used) f →
    owner_reads v (bits_of w.used) f ≡ (if claimed then sweep_reads v else 1)
reads_of v w w' f claimed h r e at =
    let past : nat_le v.size f ≡ false = grind (arith, nat_tests) in
    rw (past, r, at ∙ ap (λ (z : Workspace). is_set (bits_of z.used) f) e) refl

pub returns-then-fragment-geometry-clause-prints : goal.returns-then-fragment-geometry-clause-prints
returns-then-fragment-geometry-clause-prints g c = search (arith, prints_none, no_fragment)

pub returns-in_err-print_reserved-clause-prints : goal.returns-in_err-print_reserved-clause-prints
returns-in_err-print_reserved-clause-prints g c = rw (fails_with _ c.from_residual.ensures.1) (record {
  image = refl;
  text = stops_all (λ b k. is_reserved_line c.args.geometry.now.layout b c.args.fragment (omega arith)
      (sym c.reserved.ensures ∙ c.if-reserved.true)) (one_broken c.in_err-print_reserved.ensures);
})

pub returns-then-reserved-clause-prints : goal.returns-then-reserved-clause-prints
returns-then-reserved-clause-prints g c = record {
  image = refl;
  text = prints_all (λ b k. is_reserved_line c.args.geometry.now.layout b c.args.fragment (omega arith)
      (sym c.reserved.ensures ∙ c.if-reserved.true)) (one c.in_ok-print_reserved.ensures);
}

pub find_keepers-requires : goal.find_keepers-requires
find_keepers-requires g c = c.forget_windows.ensures.forgets c.args.geometry.now.layout _ c.requires.ready

pub find_unclaimed-requires : goal.find_unclaimed-requires
find_unclaimed-requires g c =
    let can = c.forget_windows.ensures.forgets c.args.geometry.now.layout _ c.requires.ready in
    search (rules, arith)

pub returns-then-get-clause-prints : goal.returns-then-get-clause-prints
returns-then-get-clause-prints g c =
    let v = c.args.geometry.now.layout in
    let f = c.args.fragment in
    let d = g.I.Image.device c.args.image.now in
    let free = sym c.reserved.ensures ∙ c.if-reserved.false in
    let forgot = c.forget_windows.ensures.only in
    let some = claimed_lines v d c.args.workspace.now f c.get.result c.args.geometry.now.sound (omega arith) free
    (c.get.ensures ∙ ap (λ (w : Workspace). is_set (bits_of w.used) f) forgot) in
    let did = c.find_keepers.ensures.prints in
    record {
      image = did.image;
      text = same_lines (WithBlocks v d c.args.workspace.now) (λ b. keeper_lines v b f)
          (λ b. lines_of_fragment v b f) _ _ _
          (λ b k. sym (others v b f (omega arith) free ∙ first_ones (keeper_lines v b f) (map_lines v b f)
          (sym (some b k) ∙ c.if-get.true)))
          (knowing _ _ (WithBlocks v d c.args.workspace.now) _ _ _ _
          (λ b k. (k.0, owners_held v b c.args.workspace.now _ forgot k.1)) did.text);
    }

pub returns-then-get-clause-reads : goal.returns-then-get-clause-reads
returns-then-get-clause-reads g c =
    let free = sym c.reserved.ensures ∙ c.if-reserved.false in
    let reads = reads_of c.args.geometry.now.layout c.args.workspace.now _ c.args.fragment c.get.result (omega arith)
    free c.forget_windows.ensures.only c.get.ensures in
    rw (reads, c.if-get.true) c.find_keepers.ensures.reads

pub returns-clause-reads : goal.returns-clause-reads
returns-clause-reads g c =
    let free = sym c.reserved.ensures ∙ c.if-reserved.false in
    let reads = reads_of c.args.geometry.now.layout c.args.workspace.now _ c.args.fragment c.get.result (omega arith)
    free c.forget_windows.ensures.only c.get.ensures in
    rw (reads, c.if-get.false) c.find_unclaimed.ensures.reads

pub returns-clause-prints : goal.returns-clause-prints
returns-clause-prints g c =
    let v = c.args.geometry.now.layout in
    let f = c.args.fragment in
    let d = g.I.Image.device c.args.image.now in
    let free = sym c.reserved.ensures ∙ c.if-reserved.false in
    let forgot = c.forget_windows.ensures.only in
    let some = claimed_lines v d c.args.workspace.now f c.get.result c.args.geometry.now.sound (omega arith) free
    (c.get.ensures ∙ ap (λ (w : Workspace). is_set (bits_of w.used) f) forgot) in
    let did = c.find_unclaimed.ensures.prints in
    record {
      image = did.image;
      text = same_lines (WithBlocks v d c.args.workspace.now) (λ b. map_lines v b f)
          (λ b. lines_of_fragment v b f) _ _ _
          (λ b k. sym (others v b f (omega arith) free ∙ second_ones (keeper_lines v b f) (map_lines v b f)
          (sym (some b k) ∙ c.if-get.false)))
          (knowing _ _ (WithBlocks v d c.args.workspace.now) _ _ _ _ (λ b k. k.0) did.text);
    }

pub returns-clause-ready : goal.returns-clause-ready
returns-clause-ready g c =
    let can = c.forget_windows.ensures.forgets c.args.geometry.now.layout _ c.requires.ready in
    let did = c.find_unclaimed.ensures in
    block_read _ _ _ _ _ (size_after {T = Unit {0}} _ _ c.find_unclaimed.result did.prints.image) can.ready did.window
