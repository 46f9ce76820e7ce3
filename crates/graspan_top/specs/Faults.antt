-- The faults of words, stores and answers as statuses.
use Rattle.command_words.specs.declared.fault.WordsFault.{WordsFault}
use Rattle.command_words.specs.declared.fault.WordsFault.TheVariants as words
use Rattle.store_fault.specs.declared.fault.StoreFault.{StoreFault}
use Rattle.store_fault.specs.declared.fault.StoreFault.TheVariants as stores
use Rattle.query_text.specs.declared.fault.AnswerFault.{AnswerFault}
use Rattle.query_text.specs.declared.fault.AnswerFault.TheVariants as answers
use Rattle.graspan_top.specs.declared.status.Status.{Status}
use Rattle.graspan_top.specs.declared.status.Status.TheVariants.{Words, InputFault, OtherInput, ReadFault}
use Rattle.graspan_top.specs.declared.status.Status.TheVariants.{DiskFault, WriteFault, NoMemory, BadStore}

abbrev pub of_words : WordsFault → Status
of_words words.Words = Words
of_words words.NoMemory = NoMemory

abbrev pub of_store : StoreFault → Status
of_store stores.ReadFault = ReadFault
of_store stores.DiskFault = DiskFault
of_store (stores.InputFault file line kind) = InputFault file line kind
of_store (stores.OtherInput file place) = OtherInput file place
of_store (stores.BadStore file place kind) = BadStore file place kind
of_store stores.NoMemory = NoMemory

abbrev pub of_answer : AnswerFault → Status
of_answer answers.DiskFault = DiskFault
of_answer (answers.BadStore file place kind) = BadStore file place kind
of_answer answers.WriteFault = WriteFault
of_answer answers.NoMemory = NoMemory
