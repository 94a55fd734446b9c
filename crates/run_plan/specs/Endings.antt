-- How a job ends whose end was asked for.
use Rattle.std.specs.Prelude.{ℕ, ◌==◌, nat_le, Option, Some, None, if◌then◌else◌}
use Rattle.run_plan.specs.declared.ending.EndStep.{EndStep}
use Rattle.run_plan.specs.declared.ending.EndStep.TheVariants as steps

-- programs that were asked to end have 900 milliseconds, or until the user asks for the end once more; those that don't
-- end though they were killed are left 5,000 milliseconds later
abbrev pub step_behind : ℕ → ℕ → EndStep
step_behind requests passed =
    if nat_le 5900 passed then steps.Leave
    else if nat_le 900 passed then steps.Kill
    else if nat_le 2 requests then steps.Kill
    else steps.Wait

-- programs are asked to end once the user has asked for it
abbrev pub end_step : ℕ → Option ℕ → EndStep
end_step requests None = if requests == 0 then steps.Wait else steps.Ask
end_step requests (Some passed) = step_behind requests passed
