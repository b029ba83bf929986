mod SuffixSteps
mod BuildSteps
mod PartSteps
mod RuleSteps
