-- Sends: the sends of turns.
-- Servers: what a server keeps, and what goes on of it while it serves.
-- Courses: what a server does on its front between two moments, and what a stop leaves at each.
-- Laws: what follows from the definitions.
pub mod Sends
pub mod Servers
pub mod Courses
pub mod Laws
