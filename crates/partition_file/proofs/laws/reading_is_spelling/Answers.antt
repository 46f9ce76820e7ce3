use Rattle.partition_file.proofs.FileLaws.{file_again, file_takes}
use Rattle.partition_file.proofs.laws.reading_is_spelling.Goals as goal

pub returns-clause-read : goal.returns-clause-read
returns-clause-read c = λ e bytes edges bounds fits few given. file_takes e bytes edges bounds fits few given

pub returns-clause-spelled : goal.returns-clause-spelled
returns-clause-spelled c = λ e bytes p ex fits spells. file_again e bytes p ex fits spells
