-- What holds of every text and of every job.
use Rattle.std.specs.Prelude.{◌≡◌, ℕ, ◌≤◌, List, length, Ok}
use Rattle.job_text.specs.declared.job.TheConstants.{MAX_JOB}
use Rattle.job_text.specs.Job.{job_of}
use Rattle.job_text.specs.Jobs.{Job}
use Rattle.job_laws.specs.JobLines.{IsJob}

-- what is a job by its lines, and not too long, is read as that job
abbrev pub JobsAreRead : Type 0
JobsAreRead = (bytes : List ℕ) (job : Job) → length bytes ≤ MAX_JOB → IsJob bytes job → job_of bytes ≡ Ok job

-- what is read as a job is that job by its lines, and not too long
abbrev pub OnlyJobsAreRead : Type 0
OnlyJobsAreRead = (bytes : List ℕ) (job : Job) → job_of bytes ≡ Ok job → (length bytes ≤ MAX_JOB) × IsJob bytes job
