-- Why a program can't be started.
use Rattle.std.specs.Prelude.{ℕ, ◌==◌, ◌||◌, List, [], codes, if◌then◌else◌}
use Rattle.process_commands.specs.declared.fault.StartFault.{StartFault}
use Rattle.process_commands.specs.declared.fault.StartFault.TheVariants as faults

-- the reason that a number of an error stands for, as Linux has them: ENOENT 2, ENOTDIR 20, EPERM 1, EACCES 13, EISDIR 21,
-- ENOEXEC 8, EAGAIN 11, ENFILE 23, EMFILE 24, ENOMEM 12, E2BIG 7; no error of Linux has 200 or
-- 201, which stand for what the launcher itself found
abbrev pub fault_of : ℕ → StartFault
fault_of number =
    if number == 2 || number == 20 then faults.NoSuchFile
    else (if number == 1 || number == 13 then faults.MayNotRun
    else (if number == 21 then faults.Folder
    else (if number == 8 then faults.NoProgram
    else (if number == 11 then faults.TooManyProcesses
    else (if number == 23 || number == 24 then faults.TooManyFiles
    else (if number == 12 then faults.NoMemory
    else (if number == 7 then faults.TooLong
    else (if number == 200 then faults.NoInterpreter
    else (if number == 201 then faults.OutsidePath
    else faults.Other)))))))))

-- the number by which a keeper tells the reason
abbrev pub fault_number : StartFault → ℕ
fault_number faults.NoSuchFile = 2
fault_number faults.MayNotRun = 13
fault_number faults.Folder = 21
fault_number faults.NoProgram = 8
fault_number faults.TooManyProcesses = 11
fault_number faults.TooManyFiles = 24
fault_number faults.NoMemory = 12
fault_number faults.TooLong = 7
fault_number faults.NoInterpreter = 200
fault_number faults.OutsidePath = 201
fault_number faults.Other = 0

-- the reason in words, behind 'can't be started'
abbrev pub reason_text : StartFault → List ℕ
reason_text faults.NoSuchFile = codes " (no such file or folder)"
reason_text faults.NoInterpreter = codes " (the file is there, its interpreter isn't)"
reason_text faults.OutsidePath = codes " (no such file or folder; with ./ in front the one here is taken)"
reason_text faults.MayNotRun = codes " (it may not be run)"
reason_text faults.Folder = codes " (it is a folder)"
reason_text faults.NoProgram = codes " (it is no program)"
reason_text faults.TooManyProcesses = codes " (no more processes may run: ulimit -u)"
reason_text faults.TooManyFiles = codes " (no more files may be open: ulimit -n)"
reason_text faults.NoMemory = codes " (no memory is left)"
reason_text faults.TooLong = codes " (its words and its environment are too long)"
reason_text faults.Other = []
