use Rattle.std.proofs.Common.{inl, inr}
use Rattle.outside_std.proofs.Steps.{cleared_early, cleared_late, path_taken, folder_synced, folder_unsynced}
use Rattle.outside_std.proofs.replace.take_path.Goals as goal

pub returns-in-Err-clause-err : goal.returns-in-Err-clause-err
returns-in-Err-clause-err g c before made = inr (inl (cleared_early _ _ _ _ _ made c.in-Err.ensures.err c.given_up.ensures))

pub returns-in-Err-rename-clause-err : goal.returns-in-Err-rename-clause-err
returns-in-Err-rename-clause-err g c before made =
    inr (inl (cleared_late _ _ _ _ _ _ _ made c.in_default.ensures.ok c.in-Err-rename.ensures.err c.given_up-in-Err-rename.ensures))

pub returns-in-Ok-clause-ok : goal.returns-in-Ok-clause-ok
returns-in-Ok-clause-ok g c before made =
    folder_synced _ _ _ _ _ (path_taken _ _ _ _ _ _ _ made c.in_default.ensures.ok c.in_default-rename.ensures.ok) c.in-Ok.ensures.ok

pub returns-in-Err-sync_folder-clause-err : goal.returns-in-Err-sync_folder-clause-err
returns-in-Err-sync_folder-clause-err g c before made =
    inr (inr (folder_unsynced _ _ _ _ _ (path_taken _ _ _ _ _ _ _ made c.in_default.ensures.ok c.in_default-rename.ensures.ok) c.in-Err-sync_folder.ensures.err))

pub returns-in-Err-clause-ok : goal.returns-in-Err-clause-ok
returns-in-Err-clause-ok g c before made = tt

pub returns-in-Err-rename-clause-ok : goal.returns-in-Err-rename-clause-ok
returns-in-Err-rename-clause-ok g c before made = tt

pub returns-in-Ok-clause-err : goal.returns-in-Ok-clause-err
returns-in-Ok-clause-err g c before made = tt

pub returns-in-Err-sync_folder-clause-ok : goal.returns-in-Err-sync_folder-clause-ok
returns-in-Err-sync_folder-clause-ok g c before made = tt
