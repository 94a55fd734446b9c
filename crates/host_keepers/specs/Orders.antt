-- What a launcher orders.
use Rattle.std.specs.Prelude.{◌≡◌, ℕ, ◌==◌, List, slice_index, Option, Some, None, if◌then◌else◌}
use Rattle.host_keepers.specs.Frames.{IsFirstFrame, frame_text}
use Rattle.host_keepers.specs.declared.order.OrderKind.{OrderKind}
use Rattle.host_keepers.specs.declared.order.OrderKind.TheVariants as kinds

-- the byte that stands for a kind
abbrev pub kind_code : OrderKind → ℕ
kind_code kinds.Start = 112
kind_code kinds.StartWithInput = 105
kind_code kinds.Input = 100
kind_code kinds.InputEnd = 99
kind_code kinds.Ask = 97
kind_code kinds.Kill = 120

-- the kind that a byte stands for, if it does
abbrev pub kind_of_code : ℕ → Option OrderKind
kind_of_code code =
    if code == 112 then Some kinds.Start
    else (if code == 105 then Some kinds.StartWithInput
    else (if code == 100 then Some kinds.Input
    else (if code == 99 then Some kinds.InputEnd
    else (if code == 97 then Some kinds.Ask
    else (if code == 120 then Some kinds.Kill
    else None)))))

-- an order as bytes: its kind, the rank that it is of, and its bytes
abbrev pub order_text : OrderKind → ℕ → List ℕ → List ℕ
order_text kind rank bytes = frame_text (kind_code kind) rank bytes

-- the order that stands whole at the front: its kind, its rank, its bytes, and what stands behind it
pub record IsFirstOrder (text : List ℕ) (kind : Option OrderKind) (rank : ℕ) (bytes rest : List ℕ) : Type 0 where
  pub kind_is : kind ≡ kind_of_code (slice_index text 0)
  pub frame : IsFirstFrame text (slice_index text 0) rank bytes rest
