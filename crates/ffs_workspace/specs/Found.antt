-- What is known of bytes between the phases: an image gives them, and a workspace holds what was
-- found in them.
use Rattle.std.specs.Prelude.{◌≡◌, ℕ, List, Some}
use Rattle.ffs_image.specs.Device.{Device}
use Rattle.ffs_volume.specs.declared.Layout.{Layout}
use Rattle.ffs_workspace.specs.declared.workspace.Workspace.{Workspace}
use Rattle.ffs_workspace.specs.Holds.{IsFresh, HoldsPhase1, HoldsBlockCheck, HoldsFindings, HoldsSurvey}

-- the image gives the bytes, and the workspace holds nothing yet
abbrev pub WithFresh : Layout → Device → Workspace → List ℕ → Type 0
WithFresh v d w bytes = (d.contents ≡ Some bytes) × IsFresh v w

-- the image gives the bytes, and the workspace holds what phase 1 leaves
abbrev pub WithPhase1 : Layout → Device → Workspace → List ℕ → Type 0
WithPhase1 v d w bytes = (d.contents ≡ Some bytes) × HoldsPhase1 v bytes w

-- the image gives the bytes, and the workspace holds what the block check found
abbrev pub WithBlockCheck : Layout → Device → Workspace → List ℕ → Type 0
WithBlockCheck v d w bytes = (d.contents ≡ Some bytes) × HoldsBlockCheck v bytes w

-- the image gives the bytes, and the workspace holds what the block check found, and the tree and the places that the
-- survey did: phase 3 asks no counts
abbrev pub WithSurvey : Layout → Device → Workspace → List ℕ → Type 0
WithSurvey v d w bytes = (d.contents ≡ Some bytes) × HoldsBlockCheck v bytes w × HoldsSurvey v bytes w

-- the image gives the bytes, and the workspace holds what the block check and the survey found, and the counts of
-- references, by which phase 4 goes
abbrev pub WithFindings : Layout → Device → Workspace → List ℕ → Type 0
WithFindings v d w bytes = (d.contents ≡ Some bytes) × HoldsFindings v bytes w
