use Rattle.std.proofs.Common.{◌≡◌, ℕ, ◌*◌, ◌<◌, ◌≤◌, List, [], ◌∷◌, arith, rules, length}
use Rattle.std.proofs.{Common.{take, drop}, lemmas.{Result.err_from_is_err_and, Bool.Decides.nat_tests}}
use Rattle.ffs_volume.{specs.{declared.Layout.Layout, Disk.Areas.inode_place}, proofs.Results.fails_with}
use Rattle.ffs_volume.{specs.{Blocks.Inodes.inode_from_bytes, Find.InodeText.bytes_text}, proofs.AreaLaws.inode_group}
use Rattle.ffs_volume.specs.Find.InodeText.{inode_listing}
use Rattle.ffs_workspace.proofs.TablePlaces.{piece_inside}
use Rattle.ffs_finding.proofs.Printing.{one, one_broken, prints_all, prints_none, stops_all, reads_first}
use Rattle.ffs_finding.proofs.inode.find_inode.Goals as goal

-- the lines of an inode that the volume has
lines_are : (v : Layout) (b bytes : List ℕ) (x place : ℕ) → x < v.ncg * v.ipg → place ≡ inode_place v x →
    length bytes ≡ 128 → bytes ≡ take (length bytes) (drop place b) →
    inode_listing v b x ≡ bytes_text v place bytes (inode_from_bytes v.order bytes) ∷ []
unfolding inode_listing
lines_are v b bytes x place h at long is = grind (arith, nat_tests)

no_lines : (v : Layout) (b : List ℕ) (x : ℕ) → v.ncg * v.ipg ≤ x → inode_listing v b x ≡ []
unfolding inode_listing
no_lines v b x h = grind arith

pub returns-then-number-inodes-clause-prints : goal.returns-then-number-inodes-clause-prints
returns-then-number-inodes-clause-prints g c = search (arith, prints_none, no_lines)

pub read_at-requires : goal.read_at-requires
read_at-requires g c =
    let v = c.args.geometry.now.layout in
    let group = inode_group v c.args.number c.args.geometry.now.sound (omega arith) in
    let inside = piece_inside v 1 c.args.number c.args.geometry.now.sound
    (record { some = omega arith; whole = omega arith }) group in
    omega (arith, inside, c.inode_place-place.ensures, c.requires.volume)

pub returns-in_err-read_at-clause-prints : goal.returns-in_err-read_at-clause-prints
returns-in_err-read_at-clause-prints g c = grind (arith, err_from_is_err_and, reads_first)

pub returns-in_err-print_bytes-clause-prints : goal.returns-in_err-print_bytes-clause-prints
returns-in_err-print_bytes-clause-prints g c =
    let v = c.args.geometry.now.layout in
    rw (fails_with _ c.from_residual-in_err-print_bytes.ensures.1) (record {
      image = search rules;
      text = stops_all (λ b k. lines_are v b c.read_at.new.buf c.args.number _ (omega arith) c.inode_place-place.ensures
          (search rules) (c.in_ok-read_at.ensures.bytes.bytes b k)) (one_broken c.in_err-print_bytes.ensures);
    })

pub returns-clause-prints : goal.returns-clause-prints
returns-clause-prints g c = record {
  image = search rules;
  text = prints_all (λ b k. lines_are c.args.geometry.now.layout b c.read_at.new.buf c.args.number _ (omega arith)
      c.inode_place-place.ensures (search rules) (c.in_ok-read_at.ensures.bytes.bytes b k))
      (one c.in_ok-print_bytes.ensures);
}
