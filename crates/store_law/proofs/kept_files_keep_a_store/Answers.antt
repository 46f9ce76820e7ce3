use Rattle.store_law.proofs.Keeping.{files_kept, listed_kept, store_kept, texts_kept}
use Rattle.store_law.proofs.kept_files_keep_a_store.Goals as goal

pub returns : goal.returns
returns c = record { texts = texts_kept; listed = listed_kept; rest = files_kept; store = store_kept }
