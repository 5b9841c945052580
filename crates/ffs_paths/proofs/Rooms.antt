-- The paths of a directory and of its entries, by what is kept of them.
use Rattle.std.proofs.Common.{◌≡◌, ◌≤◌, ◌<◌, sym, ap, ℕ, List, [], ◌∷◌, length, ◌+◌, ◌++◌, take, ◌∙◌, arith}
use Rattle.std.proofs.Common.{append_assoc, le-ltb, lt-ltb, true, false, Option, Some, None, if◌then◌else◌}
use Rattle.std.proofs.lemmas.{Slice.take-put_mid, Bool.both_ways}
use Rattle.ffs_volume.{proofs.{LawsHold.paths_fit, PathBound.path_text-fits}, specs.Directories.Graph.Graph}
use Rattle.ffs_volume.specs.Directories.Paths.{entry_path, path_names, path_bytes}
use Rattle.ffs_paths.{proofs.Held.entry-whole, specs.{Buffers.HoldsNames, Climbing.in_room, DirectoryPaths.IsPathOf}}
use Rattle.ffs_paths.specs.{EntryPaths.BeginsWith, Slashes.HaveNoSlash, declared.path.DirectoryPath.DirectoryPath}
use borrow.Rule.Slice.PartMut.{put_mid}

pub fits : (path : List ℕ) → length path ≤ 1024 → path ≡ in_room path
fits path h = sym (ap (λ b. if b then 63 ∷ [] else path) (le-ltb 1024 (length path) h))

pub fits_not : (path : List ℕ) → 1024 < length path → 63 ∷ [] ≡ in_room path
fits_not path h = sym (ap (λ b. if b then 63 ∷ [] else path) (lt-ltb 1024 (length path) h))

-- the name of an entry of a volume has at most 255 bytes
pub entry_in_room : (g : Graph) (d : ℕ) (name : List ℕ) → length name ≤ 255 →
    in_room (entry_path g d name) ≡ entry_path g d name
entry_in_room g d name h = sym (fits (entry_path g d name) ((paths_fit g d).of_entry name h))

-- what holds of the path of a directory: of one that is reached by all names that its buffer may
-- hold, and of one that isn't
pub by_path : (g : Graph) (d : ℕ) (p : DirectoryPath) (P : Option (List (List ℕ)) → Type 0) → IsPathOf g d p
    → (p.reached ≡ true → (names : List (List ℕ)) → HoldsNames p.names names → HaveNoSlash names → P (Some names))
    → (p.reached ≡ false → P None) → P (path_names g d)
by_path g d p P h some none = grind arith

pub entry_is : (g : Graph) (d : ℕ) (name : List ℕ) (p : DirectoryPath) (text : List ℕ) → IsPathOf g d p →
    p.reached ≡ true
    → ((names : List (List ℕ)) → HoldsNames p.names names → HaveNoSlash names → text ≡ path_bytes (names ++ name ∷ [])) →
    text ≡ in_room (entry_path g d name)
unfolding entry_path
entry_is g d name p text h r f = grind (arith, by_path, fits, path_text-fits, both_ways)

-- ---- what the paths of all entries begin with, and a name after it
pub named : (p : DirectoryPath) (begins k end : ℕ) (bytes name : List ℕ) → length bytes ≡ 1024
    → BeginsWith p begins bytes → end ≡ begins + length name → end ≤ 1024
    → (g : Graph) (d : ℕ) → IsPathOf g d p → take end (put_mid begins k bytes name) ≡ in_room (entry_path g d name)
named p begins k end bytes name size b is fits g d h =
    let room = b.room in
    let low = p.names.in_buffer in
    let ordered = p.names.ordered in
    entry_is g d name p _ h b.reached (λ names held single.
    take-put_mid begins k bytes name end is (omega arith)
    ∙ (ap (λ xs. xs ++ name) b.first
    ∙ (append_assoc _ (47 ∷ []) name
    ∙ sym (entry-whole p.names names name (held.whole b.whole) (omega arith)))))
