use Rattle.std.{proofs.Common.{arith, ◌≡◌, ◌<◌, ℕ, List}, specs.List.{flat_map, range_with_len}}
use Rattle.ffs_volume.specs.{declared.Layout.Layout, Find.InodeText.{address_text, fifteen_text}}
use Rattle.ffs_report.{specs.Sink.{Sink, Took, BrokeOff}, proofs.Sinks.took_nil}
use Rattle.ffs_finding.proofs.Ranges.{took_next, broke_off_in}
use Rattle.ffs_finding.proofs.inode.print_addresses.Goals as goal

all_took : (v : Layout) (addresses : List ℕ) (a b : Sink) (j : ℕ) → j ≡ 15 →
    Took a b (flat_map (address_text v addresses) (range_with_len 0 j)) → Took a b (fifteen_text v addresses)
unfolding fifteen_text
all_took v addresses a b j e p = grind arith

one_broke : (v : Layout) (addresses : List ℕ) (a b c : Sink) (j : ℕ) → j < 15 →
    Took a b (flat_map (address_text v addresses) (range_with_len 0 j)) → BrokeOff b c (address_text v addresses j) →
    BrokeOff a c (fifteen_text v addresses)
unfolding fifteen_text
one_broke v addresses a b c j h p q = broke_off_in (address_text v addresses) a b c j 15 h p q

pub loop-index-init : goal.loop-index-init
loop-index-init g c = record { took = took_nil _ }

pub loop-index-preserved : goal.loop-index-preserved
loop-index-preserved g c = grind (arith, took_next)

pub returns-in_err-print_address : goal.returns-in_err-print_address
returns-in_err-print_address g c = grind (arith, one_broke)

pub returns : goal.returns
returns g c =
    all_took c.args.geometry.now.layout c.args.inode.now.addresses _ _ c.loop-index.index (omega arith)
    c.loop-index.invariant.took
