use Rattle.wire_readings.specs.BookStays.{book-stays}
use Rattle.wire_fields.specs.Stays.{decodes_in_range}
use Rattle.wire_readings.proofs.laws.book_decodes_in_range.Goals as goal

pub returns : goal.returns
returns c = decodes_in_range c.grounds.ensures (book-stays c.grounds.ensures)
