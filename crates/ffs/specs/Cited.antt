-- The fact that each phase needs and leaves: the workspace has the lengths of the volume, and the image has
-- all of it. And the one that a path needs: the windows hold what the image gives, too.
pub use Rattle.ffs_workspace.specs.Ready.{CanRead, IsReady}
