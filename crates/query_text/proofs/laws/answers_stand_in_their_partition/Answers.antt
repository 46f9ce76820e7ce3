use Rattle.query_text.proofs.Places.{answers_from}
use Rattle.query_text.proofs.laws.answers_stand_in_their_partition.Goals as goal

pub returns : goal.returns
returns c = λ ends parts high label u to cut are. answers_from ends parts high label u to cut are
