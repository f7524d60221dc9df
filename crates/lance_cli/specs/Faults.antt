-- The status and the words of each fault.
use Rattle.std.specs.Prelude.{ℕ, List, ◌++◌, codes, decimal}
use Rattle.json.specs.Print.{quoted}
use Rattle.lan_store.specs.Paths.{path}
use Rattle.lance_cli.specs.declared.fault.Fault.{Fault}
use Rattle.lance_cli.specs.declared.fault.Fault.TheVariants as fault
use Rattle.lan_form.specs.Why.{why}
use Rattle.lan_form.specs.declared.faults.FormFault.{FormFault}
use Rattle.lan_form.specs.declared.faults.FormFault.TheVariants as form
use Rattle.lan_rows.specs.Why.{why_line}
use Rattle.lan_rows.specs.declared.lines.LinesFault.{LinesFault}
use Rattle.lan_rows.specs.declared.lines.LinesFault.TheVariants as lines
use Rattle.lan_read.specs.declared.read_fault.ReadFault.{ReadFault}
use Rattle.lan_read.specs.declared.read_fault.ReadFault.TheVariants as unread
use Rattle.lan_commit.specs.declared.committing.CommitFault.{CommitFault}
use Rattle.lan_commit.specs.declared.committing.CommitFault.TheVariants as unmade
use Rattle.lan_commit.specs.declared.limits.Which.{Which}
use Rattle.lan_commit.specs.declared.limits.Which.TheVariants as limit
use Rattle.lance_cli.specs.ReasonCodes.{code_of}

abbrev pub status_of : Fault → ℕ
status_of fault.Usage = 2
status_of (fault.BadInput line why) = 3
status_of fault.InputTooLong = 4
status_of fault.NoDataset = 5
status_of (fault.AlreadyThere version) = 6
status_of (fault.NoVersion asked newest) = 7
status_of (fault.RowOutOfRange row rows) = 8
status_of (fault.NoColumn name) = 9
status_of (fault.ColumnThere name) = 10
status_of (fault.LastColumn name) = 11
status_of (fault.NoNullable name) = 12
status_of (fault.CountDiffers rows lines) = 13
status_of (fault.Limit which number) = 14
status_of (fault.Outside object why place) = 15
status_of (fault.Raced name) = 16
status_of (fault.StoreFault name) = 17
status_of fault.ReadFault = 18
status_of fault.WriteFault = 19
status_of fault.Memory = 20

-- the limit's name
abbrev pub which_text : Which → List ℕ
which_text limit.Leaves = codes "leaves"
which_text limit.FieldId = codes "field id"
which_text limit.Fragments = codes "fragments"
which_text limit.FragmentId = codes "fragment id"
which_text limit.Version = codes "version"
which_text limit.FileNumber = codes "file number"
which_text limit.DeletionId = codes "deletion id"
which_text limit.ObjectBytes = codes "object bytes"

-- the words that the program prints
abbrev pub fault_text : Fault → List ℕ
fault_text fault.Usage = codes "usage: lance_cli FOLDER COMMAND [WORDS]"
fault_text (fault.BadInput line why) = codes "line " ++ (decimal line ++ (codes ": " ++ why))
fault_text fault.InputTooLong = codes "input over 268435456 bytes"
fault_text fault.NoDataset = codes "no dataset"
fault_text (fault.AlreadyThere version) = codes "dataset is there at version " ++ decimal version
fault_text (fault.NoVersion asked newest) = codes "no version " ++ (decimal asked ++ (codes ", newest is " ++ decimal newest))
fault_text (fault.RowOutOfRange row rows) = codes "row " ++ (decimal row ++ (codes " is not below " ++ decimal rows))
fault_text (fault.NoColumn name) = codes "no column " ++ quoted name
fault_text (fault.ColumnThere name) = codes "column " ++ (quoted name ++ codes " is there")
fault_text (fault.LastColumn name) = codes "last column " ++ quoted name
fault_text (fault.NoNullable name) = codes "column " ++ (quoted name ++ codes " is not nullable")
fault_text (fault.CountDiffers rows lines) = decimal rows ++ (codes " rows but " ++ (decimal lines ++ codes " lines"))
fault_text (fault.Limit which number) = codes "limit: " ++ (which_text which ++ (codes " is " ++ decimal number))
fault_text (fault.Outside object why place) = codes "outside: " ++ (path object ++ (codes ": " ++ (code_of why ++ (codes " at " ++ decimal place))))
fault_text (fault.Raced name) = codes "raced: " ++ path name
fault_text (fault.StoreFault name) = codes "store failed: " ++ path name
fault_text fault.ReadFault = codes "input failed"
fault_text fault.WriteFault = codes "output failed"
fault_text fault.Memory = codes "out of memory"

-- the faults of reading and of a change, as the program's own
abbrev pub of_read : ReadFault → Fault
of_read unread.NoDataset = fault.NoDataset
of_read (unread.NoVersion asked newest) = fault.NoVersion asked newest
of_read (unread.Outside name why place) = fault.Outside name why place
of_read (unread.Store name) = fault.StoreFault name
of_read unread.Memory = fault.Memory

abbrev pub of_commit : CommitFault → Fault
of_commit (unmade.AlreadyThere version) = fault.AlreadyThere version
of_commit (unmade.Limit which number) = fault.Limit which number
of_commit (unmade.Raced name) = fault.Raced name
of_commit (unmade.Store name) = fault.StoreFault name
of_commit unmade.Memory = fault.Memory

-- a text that is no schema, at the number of its line, and lines that are no rows, as the program's own
abbrev pub of_form : ℕ → FormFault → Fault
of_form line form.Memory = fault.Memory
of_form line f = fault.BadInput line (why f)

abbrev pub of_lines : LinesFault → Fault
of_lines (lines.Bad number f) = fault.BadInput number (why_line (lines.Bad number f))
of_lines (lines.LineTooLong number) = fault.BadInput number (why_line (lines.LineTooLong number))
of_lines lines.Memory = fault.Memory
