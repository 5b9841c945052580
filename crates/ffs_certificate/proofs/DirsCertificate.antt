-- The certificate of the checks of directories: silent, unreported and consistent are the same.
use Rattle.std.proofs.Common.{◌≡◌, ◌≢◌, ℕ, true, false, not, Option, Some, IsSomeAnd, arith, ap, inl, inr, refl, ◌↔◌}
use Rattle.std.proofs.lemmas.Bool.{cases_eq, ne_eqb, and_parts, and_from, not-false, not_from_true, Decides.nat_tests}
use Rattle.ffs_volume.specs.declared.{Class.{TheVariants.Dir, Class}, Role.TheVariants.Plain}
use Rattle.ffs_volume.specs.Directories.Roles.{Volume, RoledEntry, is_dir, is_suspect, dotdot, roled_entries}
use Rattle.ffs_volume.specs.Directories.{Graph.{parent, parent_entry_index, reached}, Naming.graph_of}
use Rattle.ffs_volume.specs.{Directories.Naming.{is_parent_entry, nth_roled}, Consistent.DirectoriesRight.IsNamedOnce}
use Rattle.ffs_volume.specs.Consistent.DirectoriesRight.{IsPlainRight, AreDirsRight, AreLinksRight, AreCountsRight}
use Rattle.ffs_volume.specs.Directories.{PathnameCheck.{is_wrong_parent, is_extraneous}, Entries.Entry, Climb.is_value}
use Rattle.ffs_volume.specs.{Directories.Connectivity.is_unref_dir, Blocks.Inodes.is_directory}
use Rattle.ffs_volume.proofs.{LevelLaws.{parent-root, reached-root}, ClimbLaws.{is_value-true, is_value-from}}
use Rattle.ffs_volume.proofs.{Graphs.{AllReached, NoExtraneous}, Booleans.{and_false-right, and_false-from}}
use Rattle.ffs_certificate.specs.{DirsCertificate.{IsSilent, AreDirectoriesRight}, Conditions.IsPlainUnreported}
use Rattle.ffs_certificate.specs.Conditions.{AreDirsUnreported, AreLinksUnreported, AreCountsUnreported}
use Rattle.ffs_certificate.{specs.Premises.{IsVolume, IsUnmarked}, proofs.Silent.{dir-below, names_at-gives}}
use Rattle.ffs_certificate.proofs.Silent.{names_at-from, pathname-quiet, pathname-silent, connectivity-quiet}
use Rattle.ffs_certificate.proofs.{Silent.{connectivity-silent, reference-quiet, reference-silent}, Suspects.is_sane}
use Rattle.ffs_certificate.proofs.Suspects.{dir-from_two, none_empty, none_suspect, none_dead, plain-live}
use Rattle.ffs_certificate.proofs.Reached.{silent-reached, links-right, has_parent_entry}

root_class : (c : Class) → is_directory c ≡ true → c ≡ Dir
root_class c h = grind arith

-- SILENT AND UNREPORTED
pub checks_reported : (v : Volume) → IsVolume v → IsUnmarked v →
    IsSilent v ↔ (AreDirsUnreported v × AreLinksUnreported v × AreCountsUnreported v)
checks_reported v vol un = (
  (λ s.
      let p = pathname-quiet v s.pathnames in
      let counts = reference-quiet v s.references in
      let sizes = none_empty v vol p counts in (
        record {
          root = ap is_directory p.root;
          each = λ d h.
              let q = p.each d h (sizes d h) in
              record {
                some = sizes d h;
                short = q.shape.short;
                broken = q.shape.broken;
                gap = q.shape.gap;
                sound = q.shape.sound;
                dot_there = q.dot_there;
                dotdot_there = q.dotdot_there.kind;
                no_extra = λ j e t. (q.entries j e t).no_extra;
                plain = λ j e t r.
                    let k = (q.entries j e t).plain r in
                    record {
                      below = k.below;
                      no_whiteout = k.no_whiteout;
                      named = λ n. let m = k.named n in record { allocated = m.allocated; right_type = m.right_type };
                    };
              };
        },
        record {
          dotdots = λ d h. (p.each d h (sizes d h)).dotdot_there.same;
          links = λ s j e h t r. and_false-from (is_dir v e.entry.number) _ (λ k.
              let two = dir-from_two v e.entry.number k in
              let q = ((p.each s h (sizes s h)).entries j e t).plain r in
              and_false-right (is_dir v e.entry.number) _ (q.named (ne_eqb e.entry.number 1 (omega arith))).link k);
          lost = grind (arith, connectivity-quiet, dir-below);
        },
        λ i h. let c = counts i h in record { some = c.some; same = c.same },
      )),
  (λ q.
      let calm = none_suspect v un (λ d h. (q.0.each d h).some) in
      record {
        pathnames = pathname-silent v (record {
          root = root_class (v.class 2) q.0.root;
          suspect = calm 2;
          each = λ d h n.
              let r = q.0.each d h in
              record {
                shape = record { short = r.short; broken = r.broken; gap = r.gap; sound = r.sound };
                dot_there = r.dot_there;
                dotdot_there = record { same = q.1.dotdots d h; kind = r.dotdot_there };
                entries = λ j e t. record {
                  no_extra = r.no_extra j e t;
                  plain = λ role.
                      let p = r.plain j e t role in
                      record {
                        below = p.below;
                        no_whiteout = p.no_whiteout;
                        named = grind arith;
                      };
                };
              };
        });
        connectivity = connectivity-silent v q.1.lost;
        references = grind (arith, reference-silent);
      }),
)

-- DIRECTORIES
plain_right : (v : Volume) (e : Entry) → IsUnmarked v → e.number ≢ 0 → IsPlainUnreported v e → IsPlainRight v e
plain_right v e un live q = grind arith

plain_unreported : (v : Volume) (e : Entry) → IsVolume v → IsUnmarked v → IsPlainRight v e → IsPlainUnreported v e
plain_unreported v e h k r = grind arith

pub dirs_reported : (v : Volume) → IsVolume v → IsUnmarked v → AreDirsUnreported v ↔ AreDirsRight v
dirs_reported v vol un = (
  (λ q. record {
    root = root_class (v.class 2) q.root;
    each = grind (arith, plain_right, plain-live);
  }),
  (λ r. record {
    root = ap is_directory r.root;
    each = λ d h.
        let p = r.each d h in
        let some = p.size.some in
        record {
          some = omega arith;
          short = grind (arith, nat_tests);
          broken = grind (arith, nat_tests);
          gap = p.gap;
          sound = p.sound;
          dot_there = p.dot_there;
          dotdot_there = p.dotdot_there;
          no_extra = p.no_extra;
          plain = λ j s t role. plain_unreported v s.entry vol un (p.plain j s t role);
        };
  }),
)

-- LINKS
root_is_dir : (v : Volume) → IsVolume v → v.class 2 ≡ Dir → is_dir v 2 ≡ true
root_is_dir v vol h = let some = vol.some in rw h (grind (arith, nat_tests))

-- with nothing suspect, no line UNREF DIR means that each directory is reached
reached_reported : (v : Volume) → IsVolume v → IsUnmarked v → AreDirsRight v →
    ((d : ℕ) → is_unref_dir v d ≡ false) ↔ AllReached (graph_of v)
reached_reported v vol un r = silent-reached (graph_of v) (is_suspect v) (is_sane v vol)
    (none_dead v (none_suspect v un (λ d h z. let some = (r.each d h).size.some in omega arith)))

-- the parent of a directory that is named once is where that name is
parent_once : (v : Volume) (d : ℕ) → d ≢ 2 → reached (graph_of v) d ≡ true → (o : IsNamedOnce (graph_of v) d) →
    parent (graph_of v) d ≡ Some o.in_dir
parent_once v d n r o = grind (arith, has_parent_entry)

-- `..` is the parent exactly where its number isn't reported
dotdot_right : (v : Volume) (d s : ℕ) (o : Option Entry) → parent (graph_of v) d ≡ Some s →
    IsSomeAnd o (λ e. is_wrong_parent (parent (graph_of v) d) e.number ≡ false) → IsSomeAnd o (λ e. e.number ≡ s)
dotdot_right v d s o h k = grind arith

dotdot_unreported : (v : Volume) (d s : ℕ) (o : Option Entry) → parent (graph_of v) d ≡ Some s →
    IsSomeAnd o (λ e. e.number ≡ s) → IsSomeAnd o (λ e. is_wrong_parent (parent (graph_of v) d) e.number ≡ false)
dotdot_unreported v d s o h k = grind arith

pub links_reported : (v : Volume) → IsVolume v → IsUnmarked v → AreDirsRight v → AreLinksUnreported v ↔ AreLinksRight v
links_reported v vol un r = (
  (λ q.
      let all = (reached_reported v vol un r).0 q.lost in
      let links = (links-right (graph_of v) root all).0 (one_entry q) in
      record {
        each = λ d h n.
            let o = links.once d h n in
            record {
              once = o;
              reached_from_root = all d h;
              dotdot_right = dotdot_right v d o.in_dir (dotdot v d) (parent_once v d n (all d h) o) (q.dotdots d h);
            };
        root = links.root;
        root_dotdot = dotdot_right v 2 2 (dotdot v 2) (parent-root (graph_of v)) (q.dotdots 2 root);
      }),
  (λ l. record {
    dotdots = dotdots l;
    links = links l;
    lost = (reached_reported v vol un r).1 (all_reached l);
  }),
)
  where
    root : is_dir v 2 ≡ true
    root = root_is_dir v vol r.root

    one_entry : AreLinksUnreported v → NoExtraneous (graph_of v)
    one_entry q s j d t h =
        let m = names_at-gives v s j d t in
        let link : is_extraneous v (is_parent_entry (graph_of v) s j d) d ≡ false = rw m.number at (q.links s j m.entry m.dir m.there m.role) in
        let both = and_parts (is_value (parent (graph_of v) d) s) (is_value (parent_entry_index (graph_of v) d) j)
        (not-false _ (and_false-right (is_dir v d) (not (is_parent_entry (graph_of v) s j d)) link h)) in
        (is_value-true (parent (graph_of v) d) s both.0, is_value-true (parent_entry_index (graph_of v) d) j both.1)

    all_reached : AreLinksRight v → AllReached (graph_of v)
    all_reached l d h = grind (arith, reached-root)

    links : AreLinksRight v → (s j : ℕ) (e : RoledEntry) → is_dir v s ≡ true →
        nth_roled (roled_entries v s) j ≡ Some e → e.role ≡ Plain →
        is_extraneous v (is_parent_entry (graph_of v) s j e.entry.number) e.entry.number ≡ false
    links l s j e d there role = and_false-from (is_dir v e.entry.number) _ (λ h.
        let at = names_at-from v s j e.entry.number
        (record { dir = d; entry = e; there = there; role = role; number = refl }) in
        let b = (links-right (graph_of v) root (all_reached l)).1
        (record { once = λ d h n. (l.each d h n).once; root = l.root }) s j e.entry.number at h in
        not_from_true _ (and_from (is_value (parent (graph_of v) e.entry.number) s) _
        (is_value-from (parent (graph_of v) e.entry.number) s b.0)
        (is_value-from (parent_entry_index (graph_of v) e.entry.number) j b.1)))

    dotdots : AreLinksRight v → (d : ℕ) → is_dir v d ≡ true →
        IsSomeAnd (dotdot v d) (λ e. is_wrong_parent (parent (graph_of v) d) e.number ≡ false)
    dotdots l d h =
        elim (cases_eq d 2) [
          | inl e ↦ rw e (dotdot_unreported v 2 2 (dotdot v 2) (parent-root (graph_of v)) l.root_dotdot)
          | inr n ↦
              let k = l.each d h n in
              dotdot_unreported v d k.once.in_dir (dotdot v d) (parent_once v d n k.reached_from_root k.once)
              k.dotdot_right
        ]

-- COUNTS
pub counts_reported : (v : Volume) → AreCountsUnreported v ↔ AreCountsRight v
counts_reported v = grind arith

-- THE WHOLE
pub silent_right : (v : Volume) → IsVolume v → IsUnmarked v → IsSilent v ↔ AreDirectoriesRight v
silent_right v vol un = (
  (λ s.
      let q = (checks_reported v vol un).0 s in
      let dirs = (dirs_reported v vol un).0 q.0 in
      record { dirs = dirs; links = (links_reported v vol un dirs).0 q.1; counts = (counts_reported v).0 q.2 }),
  (λ r. (checks_reported v vol un).1 (
    (dirs_reported v vol un).1 r.dirs,
    (links_reported v vol un r.dirs).1 r.links,
    (counts_reported v).1 r.counts,
  )),
)
