use Rattle.std.proofs.Common.{◌≡◌, ◌∙◌, ◌+◌, ◌++◌, [], ap, arith, map, refl}
use Rattle.ffs_volume.specs.{declared.BlockMessage.TheVariants.FreeCounts, Groups.GroupCheck.AlreadyReported}
use Rattle.ffs_volume.specs.Groups.GroupCheck.{reported_once, unless, group_lines, is_free_of_kept}
use Rattle.ffs_volume.specs.{Messages.Kinds.of_blocks, Blocks.Owners.owners_of, Directories.Volumes.class_at}
use Rattle.ffs_volume.proofs.Results.{fails_with}
use Rattle.ffs_groups.specs.{Check.lines_of, Inodes.class_in}
use Rattle.ffs_report.proofs.Reporting.{of_says, of_stops, of_reads, says_all, says_heading, heading_alone}
use Rattle.ffs_report.proofs.Reporting.{heading_then, stops_heading}
use Rattle.ffs_image.specs.Known.{ForBytes}
use Rattle.ffs_workspace.specs.Found.{WithBlockCheck}
use Rattle.ffs_counts.{specs.Once.{reported_of, reported_after}, proofs.GroupText.{counts_held, free_of, groups_begin}}
use Rattle.ffs_counts.proofs.GroupText.{groups_go_on, groups_end, lines_after, totals_next, totals_right, up_next}
use Rattle.ffs_counts.proofs.{GroupReads.reads_next, Holding.held_on, GroupsBelow.{before_next, group_held, once_next}}
use Rattle.ffs_counts.proofs.{SaidMore.said_more, pass5.phase5.Goals.{After-agree_with-right, In_ok-found}}
use Rattle.ffs_counts.proofs.pass5.phase5.Given as given
use Rattle.ffs_counts.proofs.pass5.phase5.Goals as goal

-- the lines of a group, and of those after it, where messages are said
gone_on : (g : given.Over) (c : In_ok-found g) (once' : AlreadyReported) →
    once' ≡ reported_after (reported_of c.loop-group.once) (lines_of c.in_ok-found.found c.loop-group.group) →
    ForBytes (WithBlockCheck c.args.superblock.now.geometry.layout (g.I.Image.device c.args.image.now) c.args.workspace.now)
    (λ bytes. lines_after c.args.superblock.now.geometry.layout c.args.superblock.now.cstotal c.args.workspace.now
    (reported_of c.loop-group.once) c.loop-group.group bytes
    ≡ map of_blocks (reported_once (reported_of c.loop-group.once) (lines_of c.in_ok-found.found c.loop-group.group))
    ++ lines_after c.args.superblock.now.geometry.layout c.args.superblock.now.cstotal c.args.workspace.now once'
    (c.loop-group.group + 1) bytes)
gone_on g c once' noted bytes k =
    let inv = c.loop-group.invariant in
    groups_go_on c.args.superblock.now.geometry.layout c.args.superblock.now.cstotal c.args.workspace.now
    c.read_group.new.workspace bytes _ once' _ c.loop-group.group c.loop-group-test.true
    (held_on c.args.workspace.now c.loop-group.workspace _ inv.stays.held c.in_ok-found.ensures.stays.held)
    (c.in_ok-found.ensures.found.lines bytes (ap (λ d. d.contents) inv.device ∙ k.0)) noted

-- what was found of a group gives its lines
found_lines : (g : given.Over) (c : In_ok-found g) →
    ForBytes (WithBlockCheck c.args.superblock.now.geometry.layout (g.I.Image.device c.args.image.now) c.args.workspace.now)
    (λ bytes. lines_of c.in_ok-found.found c.loop-group.group
    ≡ group_lines c.args.superblock.now.geometry.layout bytes
    (is_free_of_kept c.args.superblock.now.geometry.layout (owners_of c.args.superblock.now.geometry.layout bytes))
    (class_at c.args.superblock.now.geometry.layout bytes) c.loop-group.group)
found_lines g c bytes k =
    let inv = c.loop-group.invariant in
    group_held c.args.superblock.now.geometry.layout c.args.workspace.now c.read_group.new.workspace bytes _
    c.loop-group.group k.1
    (held_on c.args.workspace.now c.loop-group.workspace _ inv.stays.held c.in_ok-found.ensures.stays.held)
    (c.in_ok-found.ensures.found.lines bytes (ap (λ d. d.contents) inv.device ∙ k.0))

-- the lines after the last group
ended : (g : given.Over) (c : After-agree_with-right g) →
    ForBytes (WithBlockCheck c.args.superblock.now.geometry.layout (g.I.Image.device c.args.image.now) c.args.workspace.now)
    (λ bytes. lines_after c.args.superblock.now.geometry.layout c.args.superblock.now.cstotal c.args.workspace.now
    (reported_of c.loop-group.once) c.loop-group.group bytes
    ≡ map of_blocks (reported_once (reported_of c.loop-group.once) (unless c.agree_with-right.result FreeCounts)) ++ [])
ended g c bytes k = grind (arith, groups_end, totals_right)

pub returns-in_err-say-clause-text : goal.returns-in_err-say-clause-text
returns-in_err-say-clause-text g c =
    rw (fails_with _ c.from_residual.ensures.1) (stops_heading c.in_err-say.ensures.said)

pub returns-in_err-say-clause-leaves : goal.returns-in_err-say-clause-leaves
returns-in_err-say-clause-leaves g c = c.forget_windows.ensures.only

pub returns-in_err-say-clause-ready : goal.returns-in_err-say-clause-ready
returns-in_err-say-clause-ready g c =
    (c.forget_windows.ensures.forgets c.args.superblock.now.geometry.layout _ c.requires.ready).ready

pub loop-group-init : goal.loop-group-init
loop-group-init g c =
    let v = c.args.superblock.now.geometry.layout in
    let can = c.forget_windows.ensures.forgets v (g.I.Image.device c.args.image.now) c.requires.ready in
    grind (arith, says_heading, says_all, groups_begin, heading_alone)

pub returns-in_err-found-clause-text : goal.returns-in_err-found-clause-text
returns-in_err-found-clause-text g c =
    rw (fails_with _ c.from_residual-in_err-found.ensures.1) (of_reads c.loop-group.invariant.said)

pub returns-in_err-found-clause-before_fault : goal.returns-in_err-found-clause-before_fault
returns-in_err-found-clause-before_fault g c = rw (fails_with _ c.from_residual-in_err-found.ensures.1) (record {
  group = c.loop-group.group;
  low = c.loop-group-test.true;
  failed = c.in_err-found.ensures.found.sector;
  said = c.loop-group.invariant.before;
})

pub returns-in_err-say_group-clause-text : goal.returns-in_err-say_group-clause-text
returns-in_err-say_group-clause-text g c =
    let at = (goal.at.returns-in_err-say_group-clause-text g c).In_ok-found in
    rw (fails_with _ c.from_residual-in_err-say_group.ensures.1)
    (of_stops _ _ _ _ _ _ _ _ c.loop-group.invariant.said (gone_on g at _ refl) c.in_err-say_group.ensures.said)

pub loop-group-preserved : goal.loop-group-preserved
loop-group-preserved g c =
    let v = c.args.superblock.now.geometry.layout in
    let w = c.args.workspace.now in
    let inv = c.loop-group.invariant in
    let n = c.loop-group.group in
    let counts = c.group_counts-counts in
    record {
      device = c.in_ok-found.ensures.found.read ∙ inv.device;
      stays = record {
        held = held_on w c.loop-group.workspace _ inv.stays.held c.in_ok-found.ensures.stays.held;
        can_read = c.in_ok-found.ensures.stays.can_read;
      };
      reads = reads_next n _ _ _ inv.reads c.in_ok-found.ensures.reads.counted
          (λ more. c.in_ok-found.ensures.reads.again (inv.records more));
      records = grind arith;
      up = up_next n c.loop-group.totals _ counts.result.summary inv.up c.add.ensures (omega (arith, counts.type_inv))
          (omega (arith, counts.type_inv)) (omega (arith, counts.type_inv)) (omega (arith, counts.type_inv));
      totals = totals_next v (free_of v w) (class_in w.kinds.items) n c.loop-group.totals _ _ inv.totals c.add.ensures
          (counts_held v w c.loop-group.workspace c.deref.result.now n _ inv.stays.held c.deref.ensures.value
          counts.ensures.summary);
      said = of_says inv.said
          (gone_on g (goal.at.loop-group-preserved g c).In_ok-found _ c.in_ok-say_group.ensures.reported)
          c.in_ok-say_group.ensures.said;
      once = λ bytes k. once_next v bytes _ _ _ n (found_lines g (goal.at.loop-group-preserved g c).In_ok-found bytes k)
          (inv.once bytes k) c.in_ok-say_group.ensures.reported;
      before = said_more inv.before
          (λ bytes k. before_next v bytes _ _ n (found_lines g (goal.at.loop-group-preserved g c).In_ok-found bytes k)
          (inv.once bytes k))
          c.in_ok-say_group.ensures.said;
      heading = heading_then _ inv.heading c.in_ok-say_group.ensures.said;
    }

pub returns-in_err-say_unless-clause-text : goal.returns-in_err-say_unless-clause-text
returns-in_err-say_unless-clause-text g c =
    let at = (goal.at.returns-in_err-say_unless-clause-text g c).After-agree_with-right in
    rw (fails_with _ c.from_residual-in_err-say_unless.ensures.1)
    (of_stops _ _ (λ bytes. []) _ _ _ _ _ c.loop-group.invariant.said (ended g at)
    c.in_err-say_unless.ensures.said)

pub returns-clause-text : goal.returns-clause-text
returns-clause-text g c = of_says c.loop-group.invariant.said
    (ended g (goal.at.returns-clause-text g c).After-agree_with-right) c.in_ok-say_unless.ensures.said

pub returns-in_err-found-clause-reads : goal.returns-in_err-found-clause-reads
returns-in_err-found-clause-reads g c = grind arith

pub returns-in_err-say_group-clause-reads : goal.returns-in_err-say_group-clause-reads
returns-in_err-say_group-clause-reads g c = grind arith

pub returns-in_err-say_unless-clause-reads : goal.returns-in_err-say_unless-clause-reads
returns-in_err-say_unless-clause-reads g c = grind arith

pub returns-clause-reads : goal.returns-clause-reads
returns-clause-reads g c = grind arith
