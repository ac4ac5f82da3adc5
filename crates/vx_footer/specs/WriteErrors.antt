-- Why a file is not written, where one of its tables is not.
use Rattle.vx_data.specs.declared.table_write_error.TableWriteError.{TableWriteError}
use Rattle.vx_data.specs.declared.table_write_error.TableWriteError.TheVariants as table
use Rattle.vx_footer.specs.declared.write_error.WriteError.{WriteError}
use Rattle.vx_footer.specs.declared.write_error.WriteError.TheVariants.{TooDeep, TooManyTables, SegmentTooLong, OutOfMemory}

abbrev pub of_table_write : TableWriteError → WriteError
of_table_write table.TooDeep = TooDeep
of_table_write table.TooManyTables = TooManyTables
of_table_write table.TableTooLong = SegmentTooLong
of_table_write table.OutOfMemory = OutOfMemory
