-- For private functions: what an attendance without a history comes to.
use Rattle.ic_disk.specs.declared.disk.Disk.{Ghosts}
use Rattle.ic_book.specs.Book.{disk_of}
use Rattle.ic_attend.specs.declared.fault.AttendFault.{AttendFault}
use Rattle.ic_attend.specs.declared.fault.AttendFault.TheVariants as attending
use Rattle.ic_scripts.specs.declared.fault.ScriptsFault.{ScriptsFault}
use Rattle.ic_scripts.specs.declared.fault.ScriptsFault.TheVariants.{Open, NoThread, Torn, Memory}

-- its fault
abbrev pub fault_of_attendance : {D : Type 0} {ghosts : Ghosts D} → AttendFault D ghosts
    → ScriptsFault
fault_of_attendance (attending.Open fault) = Open fault.cause
fault_of_attendance (attending.NoThread attended) = NoThread
fault_of_attendance (attending.Memory book) = Memory
fault_of_attendance (attending.Torn attended) = Torn

-- the disk that it leaves
abbrev pub disk_left : {D : Type 0} {ghosts : Ghosts D} → AttendFault D ghosts → D
disk_left (attending.Open fault) = fault.disk
disk_left (attending.NoThread attended) = disk_of attended.book
disk_left (attending.Memory book) = disk_of book
disk_left (attending.Torn attended) = disk_of attended.book
