use Rattle.wire_readings.specs.Book.{book-returned}
use Rattle.wire_fields.specs.Returned.{reads_back}
use Rattle.wire_readings.proofs.laws.book_reads_back.Goals as goal

pub returns : goal.returns
returns c = reads_back (book-returned c.grounds.ensures) c.text_decodes.ensures
