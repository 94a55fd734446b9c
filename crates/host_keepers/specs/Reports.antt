-- What a keeper reports.
use Rattle.std.specs.Prelude.{◌≡◌, ℕ, ◌==◌, List, slice_index, if◌then◌else◌}
use Rattle.host_keepers.specs.Frames.{IsFirstFrame, frame_text}
use Rattle.host_keepers.specs.declared.report.ReportKind.{ReportKind}
use Rattle.host_keepers.specs.declared.report.ReportKind.TheVariants as kinds

-- the byte that stands for a kind
abbrev pub kind_code : ReportKind → ℕ
kind_code kinds.Output = 111
kind_code kinds.Errors = 101
kind_code kinds.Status = 115
kind_code kinds.Signal = 107
kind_code kinds.Nothing = 110
kind_code kinds.Ready = 114
kind_code kinds.Taken = 116

-- the kind that a byte stands for
abbrev pub kind_of_code : ℕ → ReportKind
kind_of_code code =
    if code == 111 then kinds.Output
    else (if code == 101 then kinds.Errors
    else (if code == 115 then kinds.Status
    else (if code == 107 then kinds.Signal
    else (if code == 114 then kinds.Ready
    else (if code == 116 then kinds.Taken
    else kinds.Nothing)))))

-- a report as bytes: its kind, the rank that it is of, and its bytes
abbrev pub report_text : ReportKind → ℕ → List ℕ → List ℕ
report_text kind rank bytes = frame_text (kind_code kind) rank bytes

-- the report that stands whole at the front: its kind, its rank, its bytes, and what stands behind it
pub record IsFirstReport (text : List ℕ) (kind : ReportKind) (rank : ℕ) (bytes rest : List ℕ) : Type 0 where
  pub kind_is : kind ≡ kind_of_code (slice_index text 0)
  pub frame : IsFirstFrame text (slice_index text 0) rank bytes rest
