-- A look at the entries of a chunk, and at the chunks of a directory, one after another.
use Rattle.std.proofs.Common.{refl, ◌++◌, ◌≡◌, sym, ◌∙◌, ℕ, arith, Bool, ◌&&◌, List, [], ◌∷◌, ◌⊎◌, true}
use Rattle.std.{proofs.Math.Bool.{and-true, and_assoc}, specs.List.flat_map}
use Rattle.ffs_pathnames.specs.PassedNames.{is_quiet, are_quiet, after_look, after_looks}
use Rattle.ffs_volume.specs.Directories.{Entries.{Chunk, Entry}, PathnameCheck.are_sound, Roles.{roled_chunk, Volume}}
use Rattle.ffs_volume.specs.{Directories.Roles.RoledEntry, declared.Role.{Role, TheVariants.{Dot, Dotdot, Empty}}}

-- ---- the entries of a chunk
-- one that is empty, `.` or `..` is quiet, and stamps nothing
pub silent_roles : (vol : Volume) (s : ℕ) (flags : List Bool) (stamps : List ℕ) (role : Role) (e : Entry) →
    (role ≡ Empty) ⊎ ((role ≡ Dot) ⊎ (role ≡ Dotdot)) →
    (is_quiet vol s flags stamps (record { role = role; entry = e }) ≡ true)
    × (after_look vol s stamps (record { role = role; entry = e }) ≡ stamps)
unfolding is_quiet
silent_roles vol s flags stamps Empty e h = (refl, refl)
silent_roles vol s flags stamps Dot e h = (refl, refl)
silent_roles vol s flags stamps Dotdot e h = (refl, refl)
silent_roles vol s flags stamps role e h = absurd (grind arith)

pub quiet_on : (vol : Volume) (s : ℕ) (flags : List Bool) (stamps : List ℕ) {stamps' : List ℕ} {seen : RoledEntry} {es es' : List RoledEntry}
    {all still : Bool} (quiet : Bool) → es ≡ seen ∷ es' →
    still ≡ (quiet && is_quiet vol s flags stamps seen) → stamps' ≡ after_look vol s stamps seen →
    all ≡ (quiet && are_quiet vol s flags stamps es) → all ≡ (still && are_quiet vol s flags stamps' es')
quiet_on vol s flags stamps quiet e h t q = grind (arith, and_assoc)

pub stamps_on : (vol : Volume) (s : ℕ) (stamps : List ℕ) {stamps' all : List ℕ} {seen : RoledEntry}
    {es es' : List RoledEntry} →
    es ≡ seen ∷ es' →
    stamps' ≡ after_look vol s stamps seen → all ≡ after_looks vol s stamps es → all ≡ after_looks vol s stamps' es'
stamps_on vol s stamps e t q = rw t (rw e at q)

-- ---- the chunks of a directory
looks-append : (vol : Volume) (s : ℕ) (stamps : List ℕ) (xs ys : List RoledEntry) → after_looks vol s stamps (xs ++ ys)
    ≡ after_looks vol s (after_looks vol s stamps xs) ys
looks-append vol s stamps [] ys = refl
looks-append vol s stamps (x ∷ xs) ys = looks-append vol s (after_look vol s stamps x) xs ys

quiet-append : (vol : Volume) (s : ℕ) (flags : List Bool) (stamps : List ℕ) (xs ys : List RoledEntry) →
    are_quiet vol s flags stamps (xs ++ ys)
    ≡ (are_quiet vol s flags stamps xs && are_quiet vol s flags (after_looks vol s stamps xs) ys)
quiet-append vol s flags stamps [] ys = refl
quiet-append vol s flags stamps (x ∷ xs) ys =
    rw (quiet-append vol s flags (after_look vol s stamps x) xs ys, and_assoc (is_quiet vol s flags stamps x)) refl

pub chunk_quiet : (vol : Volume) (s : ℕ) (flags : List Bool) (stamps : List ℕ) {stamps' : List ℕ} {cs cs' : List Chunk}
    {c : Chunk} {all here : Bool} (quiet : Bool) → cs ≡ c ∷ cs' →
    here ≡ are_quiet vol s flags stamps (roled_chunk c) → stamps' ≡ after_looks vol s stamps (roled_chunk c) →
    all ≡ (quiet && are_quiet vol s flags stamps (flat_map roled_chunk cs)) →
    all ≡ ((quiet && here) && are_quiet vol s flags stamps' (flat_map roled_chunk cs'))
chunk_quiet vol s flags stamps quiet e h t q = grind (arith, quiet-append, and_assoc)

pub chunk_stamps : (vol : Volume) (s : ℕ) (stamps : List ℕ) {stamps' all : List ℕ} {cs cs' : List Chunk} {c : Chunk} →
    cs ≡ c ∷ cs' →
    stamps' ≡ after_looks vol s stamps (roled_chunk c) → all ≡ after_looks vol s stamps (flat_map roled_chunk cs) →
    all ≡ after_looks vol s stamps' (flat_map roled_chunk cs')
chunk_stamps vol s stamps e t q = grind (arith, looks-append)

pub chunk_sound : {cs cs' : List Chunk} {c : Chunk} {all here : Bool} (sound : Bool) → cs ≡ c ∷ cs' → here ≡ c.sound →
    all ≡ (sound && are_sound cs) → all ≡ ((sound && here) && are_sound cs')
chunk_sound sound e h q = rw (h, and_assoc sound) (rw e at q)

-- no chunk is left
pub all_quiet : (vol : Volume) (s : ℕ) (flags : List Bool) (stamps : List ℕ) {cs : List Chunk} {all : Bool} (quiet : Bool)
    → cs ≡ [] → all ≡ (quiet && are_quiet vol s flags stamps (flat_map roled_chunk cs)) → quiet ≡ all
all_quiet vol s flags stamps quiet e q = sym ((rw e at q) ∙ and-true quiet)

pub all_stamps : (vol : Volume) (s : ℕ) (stamps : List ℕ) {all : List ℕ} {cs : List Chunk} → cs ≡ [] →
    all ≡ after_looks vol s stamps (flat_map roled_chunk cs) → stamps ≡ all
all_stamps vol s stamps e q = sym (rw e at q)

pub all_sound : {cs : List Chunk} {all : Bool} (sound : Bool) → cs ≡ [] → all ≡ (sound && are_sound cs) → sound ≡ all
all_sound sound e q = sym ((rw e at q) ∙ and-true sound)
